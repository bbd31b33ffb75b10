-- What the world of every run keeps.
use Rattle.std.specs.Prelude.{◌≡◌, ◌≤◌, ℕ, List, [], ◌∷◌, Bool, true, not, ◌&&◌, map}
use Rattle.std.specs.List.{list_any, AllByRecursion}
use Rattle.swf_text.specs.Same.{same}
use Rattle.swf_meaning.specs.World.{Instance, World}
use Rattle.swf_meaning.specs.declared.key.Key.TheVariants.{Instance as OfInstance, Moment as OfMoment}
use Rattle.swf_runs.specs.After.{is_used}

-- the ids of the instances, in start order
abbrev pub ids : List Instance → List (List ℕ)
ids is = map (λ i. i.id) is

-- an id is among these
abbrev pub is_one_of : List ℕ → List (List ℕ) → Bool
is_one_of id xs = list_any (same id) xs

-- no two are the same
abbrev pub are_apart : List (List ℕ) → Bool
are_apart [] = true
are_apart (x ∷ xs) = not (is_one_of x xs) && are_apart xs

-- what a run keeps: the ids of instances differ, and each is a used key; none started after now; and no moment above now is used
pub record IsWorld (w : World) : Type 0 where
  pub apart : are_apart (ids w.instances) ≡ true
  pub used : (id : List ℕ) → is_one_of id (ids w.instances) ≡ true → is_used (OfInstance id) w ≡ true
  pub started : AllByRecursion (λ i. i.started ≤ w.now) w.instances
  pub timed : (t : ℕ) → is_used (OfMoment t) w ≡ true → t ≤ w.now
