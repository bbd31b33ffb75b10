-- How a forest is kept: its stacks in one list by rising number, each with the number of the strand above it.
use Rattle.std.specs.Prelude.{◌≡◌, ℕ, suc, ◌≤◌, ◌==◌, ◌||◌, not, ◌++◌, if◌then◌else◌, Bool, false, IsTrue, List, [], ◌∷◌, map, Option, Some, None, option_map, slice_get}
use Rattle.std.specs.List.{list_any}
use Rattle.swf_frames.specs.Tree.{Strands, no_strands, strand}
use Rattle.swf_frames.specs.declared.stack.Children.{Children}
use Rattle.swf_frames.specs.declared.stack.Stack.{Stack}

-- the number of a strand, and that of the strand above it
pub record Link : Type 0 where
  pub number : ℕ
  pub parent : Option ℕ

abbrev pub is_child_of : ℕ → Option ℕ → Bool
is_child_of n None = false
is_child_of n (Some p) = p == n

-- the numbers rise from the lowest on, and all are below the next one
abbrev pub Rises : ℕ → List Link → ℕ → Type 0
Rises lowest [] next = lowest ≤ next
Rises lowest (l ∷ ls) next = (lowest ≤ l.number) × Rises (suc l.number) ls next

-- each stands below one that was seen before it
abbrev pub HasParents : List ℕ → List Link → Type 0
HasParents seen [] = Unit {0}
HasParents seen (l ∷ ls) = IsTrue (list_any (λ n. is_child_of n l.parent) seen) × HasParents (l.number ∷ seen) ls

-- the first is the root, and each other one stands below one before it
abbrev pub IsRooted : List Link → Type 0
IsRooted [] = ⊥
IsRooted (l ∷ ls) = (l.parent ≡ None) × HasParents (l.number ∷ []) ls

abbrev pub IsLinked : List Link → ℕ → Type 0
IsLinked ls next = Rises 0 ls next × IsRooted ls

abbrev pub no_children : Children
no_children = record { first = 0; count = 0 }

-- a stack without where it lies in memory
pub record Row (F : Type 0) : Type 0 where
  pub number : ℕ
  pub parent : Option ℕ
  pub children : Children
  pub frames : List F

module _ {F : Type 0} where
  abbrev pub row_of : Stack F → Row F
  row_of s = record { number = s.strand; parent = s.parent; children = s.children; frames = s.frames.items }

  abbrev pub rows : List (Stack F) → List (Row F)
  rows ss = map row_of ss

  abbrev pub link_of : Row F → Link
  link_of r = record { number = r.number; parent = r.parent }

  abbrev pub links : List (Row F) → List Link
  links rs = map link_of rs

  -- the number of the row at a place
  abbrev pub number_at : List (Row F) → ℕ → Option ℕ
  number_at rs i = option_map (λ r. r.number) (slice_get rs i)

  -- the strands below that of a number, each with those behind it in the list that stand below it
  abbrev pub under : ℕ → List (Row F) → Strands F
  under n [] = no_strands
  under n (r ∷ rs) =
      if is_child_of n r.parent then strand r.number r.frames (under r.number rs) (under n rs) else under n rs

  -- the root with those below it
  abbrev pub strands_of : List (Row F) → Strands F
  strands_of [] = no_strands
  strands_of (r ∷ rs) = strand r.number r.frames (under r.number rs) no_strands

  abbrev pub has_number : List (Row F) → ℕ → Bool
  has_number rs n = list_any (λ r. r.number == n) rs

  -- whether what has this parent is below the strand of a number, where these are all that are not
  abbrev pub is_below : ℕ → List (Row F) → Option ℕ → Bool
  is_below n done None = false
  is_below n done (Some p) = p == n || not (has_number done p)

  -- those of the rest that are not below the strand of a number, behind these that are not
  abbrev pub kept : ℕ → List (Row F) → List (Row F) → List (Row F)
  kept n done [] = []
  kept n done (r ∷ rs) = if is_below n done r.parent then kept n done rs else r ∷ kept n (done ++ r ∷ []) rs

  -- new children of a strand, with a frame each
  abbrev pub fresh_rows : ℕ → ℕ → List F → List (Row F)
  fresh_rows parent n [] = []
  fresh_rows parent n (f ∷ fs) = record { number = n; parent = Some parent; children = no_children; frames = f ∷ [] } ∷ fresh_rows parent (suc n) fs
