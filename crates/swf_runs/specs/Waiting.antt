-- What waits, and what waits no more.
use Rattle.std.specs.Prelude.{nat_le, ◌≡◌, ◌+◌, ◌<◌, ℕ, length, List, Bool, true, codes, Some}
use Rattle.std.specs.List.{list_any}
use Rattle.swf_meaning.specs.Answer.{instance_at, status_of}
use Rattle.swf_meaning.specs.Node.{Node}
use Rattle.swf_meaning.specs.Pending.{listening, open_calls, waiting}
use Rattle.swf_meaning.specs.World.{Instance, World}

-- at least one strand listens for an event, waits for a moment, or awaits an answer
abbrev pub IsListed : Node → Type 0
IsListed n = 0 < length (listening n) + length (waiting n) + length (open_calls n)

-- what waits is listed
abbrev pub IsWaitListed : World → Type 0
IsWaitListed w = (id : List ℕ) (i : Instance) → instance_at id w.instances ≡ Some i → status_of w.now i.node ≡ codes "waiting" → IsListed i.node

-- a timer's moment has come
abbrev pub is_over : ℕ → List (List ℕ × ℕ) → Bool
is_over now timers = list_any (λ p. nat_le p.1 now) timers

-- an instance with such a timer is running
abbrev pub IsOverRunning : World → Type 0
IsOverRunning w = (id : List ℕ) (i : Instance) → instance_at id w.instances ≡ Some i → is_over w.now (waiting i.node) ≡ true → status_of w.now i.node ≡ codes "running"
