-- To which instance the answer of an activity goes.
use Rattle.std.specs.Prelude.{◌≡◌, ◌&&◌, ℕ, List, Bool, true, Some, slice_get}
use Rattle.std.specs.List.{list_any}
use Rattle.swf_meaning.specs.Reply.{is_of, is_open}
use Rattle.swf_meaning.specs.World.{Instance}

-- the activity is a call of one of these instances that awaits its answer
abbrev pub is_open_among : List ℕ → List Instance → Bool
is_open_among a is = list_any (λ i. is_of a i.id && is_open a i.node) is

-- it is one of the instance of that number
abbrev pub IsOpenAt : List ℕ → List Instance → ℕ → Type 0
IsOpenAt a is n = (i : Instance) × (slice_get is n ≡ Some i) × (is_of a i.id ≡ true) × (is_open a i.node ≡ true)
