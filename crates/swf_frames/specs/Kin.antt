-- Each strand knows its children, whose numbers follow each other.
use Rattle.std.specs.Prelude.{◌≡◌, ℕ, zero, suc, List, [], ◌∷◌}
use Rattle.swf_frames.specs.Tree.{numbers}
use Rattle.swf_frames.specs.Stacks.{Row, links, under, IsLinked}
use Rattle.swf_frames.specs.declared.stack.Children.{Children}

-- so many numbers, one after another
abbrev pub numbers_from : ℕ → ℕ → List ℕ
numbers_from first zero = []
numbers_from first (suc count) = first ∷ numbers_from (suc first) count

module _ {F : Type 0} where
  -- the children of each, which stand behind it, are numbered from its first one on
  abbrev pub KnowChildren : List (Row F) → Type 0
  KnowChildren [] = Unit {0}
  KnowChildren (r ∷ rs) =
      (numbers (under r.number rs) ≡ numbers_from r.children.first r.children.count) × KnowChildren rs

  -- such rows make a forest
  abbrev pub IsForest : List (Row F) → ℕ → Type 0
  IsForest rs next = IsLinked (links rs) next × KnowChildren rs

  -- other children of the row at a place
  abbrev pub with_children : List (Row F) → ℕ → Children → List (Row F)
  with_children [] i c = []
  with_children (r ∷ rs) zero c = record r { children = c } ∷ rs
  with_children (r ∷ rs) (suc i) c = r ∷ with_children rs i c
