-- Which instances stand in the queue, by their numbers, and which strand of one can take a step.
use Rattle.std.specs.Prelude.{◌≡◌, ℕ, zero, suc, List, [], ◌∷◌, Bool, true, false, Option, Some, None, slice_get}
use Rattle.std.specs.List.{list_any}
use Rattle.swf_meaning.specs.Local.{is_enabled}
use Rattle.swf_meaning.specs.Strands.{can_go}
use Rattle.swf_meaning.specs.World.{Instance}
use Rattle.swf_queue.specs.Queue.{is_among}

-- the instance of that number can take a step
abbrev pub enabled_at : ℕ → List Instance → ℕ → Bool
enabled_at now [] n = false
enabled_at now (i ∷ is) zero = is_enabled now i.node
enabled_at now (i ∷ is) (suc n) = enabled_at now is n

-- some instance can take a step
abbrev pub is_loud : ℕ → List Instance → Bool
is_loud now is = list_any (λ i. is_enabled now i.node) is

-- every enabled instance is in the queue
pub record Queued (now : ℕ) (is : List Instance) (queue : List ℕ) : Type 0 where
  pub all : (n : ℕ) → enabled_at now is n ≡ true → is_among n queue ≡ true

-- a strand of the instance of that number can take a step
abbrev pub CanGoAt : ℕ → List Instance → ℕ → List ℕ → Type 0
CanGoAt now is n strand = (i : Instance) × (slice_get is n ≡ Some i) × (can_go now strand i.node ≡ true)

-- such a strand; none where that instance can take no step
abbrev pub IsNextAt : ℕ → List Instance → ℕ → Option (List ℕ) → Type 0
IsNextAt now is n None = enabled_at now is n ≡ false
IsNextAt now is n (Some strand) = CanGoAt now is n strand
