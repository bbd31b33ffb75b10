-- How far the search has come, and its steps.
use Rattle.std.specs.Prelude.{[], ◌∷◌, ◌++◌, ◌-◌, ◌<◌, ⊤, ◌&&◌, ◌||◌, ℕ, List, Bool, true, false, length, get_or, nat_le, nat_lt, if◌then◌else◌, slice_set, take, drop, reverse}
use Rattle.swf_cycles.specs.Cycles.{calls}
use Rattle.swf_cycles.specs.declared.search.Search.{Search}
use Rattle.swf_cycles.specs.declared.search.Stage.{Stage}
use Rattle.swf_cycles.specs.declared.search.Stage.TheVariants.{New, Open, Closed}
use Rattle.swf_cycles.specs.declared.search.Waiting.{Waiting}

-- the open ones in the order in which they were opened; the starts of groups and the calls that wait, the newest first
pub record State : Type 0 where
  pub stages : List Stage
  pub stack : List ℕ
  pub starts : List ℕ
  pub waiting : List Waiting

abbrev pub state_of : Search → State
state_of s = record { stages = s.stages.items; stack = s.stack.items; starts = reverse s.starts.items; waiting = reverse s.waiting.items }

-- calls from a place, before those that wait
abbrev pub with_calls : List Waiting → ℕ → List ℕ → List Waiting
with_calls ws p [] = ws
with_calls ws p (j ∷ js) = with_calls (record { from = p; to = j } ∷ ws) p js

-- one more is open, in a group of its own
abbrev pub opened : State → ℕ → List ℕ → State
opened s v js =
    record { stages = slice_set s.stages v (Open (length s.stack)); stack = s.stack ++ v ∷ []; starts = length s.stack ∷ s.starts; waiting = with_calls s.waiting (length s.stack) js }

abbrev pub is_new : Stage → Bool
is_new New = true
is_new (Open p) = false
is_new (Closed b) = false

-- it is opened, if it stands in the graph and is new
abbrev pub begun : State → ℕ → List ℕ → State
begun s v js = if nat_lt v (length s.stages) && is_new (get_or s.stages v New) then opened s v js else s

-- the starts that lie no later than a place
abbrev pub up_to : ℕ → List ℕ → List ℕ
up_to p [] = []
up_to p (t ∷ ts) = if nat_le t p then t ∷ ts else up_to p ts

-- the groups from that of a place on are one
abbrev pub joined : State → ℕ → State
joined s p = record { stages = s.stages; stack = s.stack; starts = up_to p s.starts; waiting = s.waiting }

abbrev pub all_closed : List Stage → List ℕ → Bool → List Stage
all_closed ss [] b = ss
all_closed ss (v ∷ vs) b = all_closed (slice_set ss v (Closed b)) vs b

abbrev pub rest : List ℕ → List ℕ
rest [] = []
rest (t ∷ ts) = ts

-- the last group, which starts at a place, is closed
abbrev pub closed : State → ℕ → Bool → State
closed s p b = record { stages = all_closed s.stages (drop p s.stack) b; stack = take p s.stack; starts = rest s.starts; waiting = s.waiting }

-- those of the last group call themselves where there are several, or the one calls itself
abbrev pub is_cycle : List (List ℕ) → State → ℕ → Bool
is_cycle g s p = nat_lt 1 (length s.stack - p) || calls g (get_or s.stack p 0) (get_or s.stack p 0)

abbrev pub met : List (List ℕ) → State → ℕ → Stage → State
met g s v New = opened s v (get_or g v [])
met g s v (Open p) = joined s p
met g s v (Closed b) = s

-- a call is followed, if it stands in the graph
abbrev pub followed : List (List ℕ) → State → ℕ → State
followed g s v = if nat_lt v (length s.stages) then met g s v (get_or s.stages v New) else s

-- no call of a group that starts at a place waits
abbrev pub NoneOf : ℕ → List Waiting → Type 0
NoneOf p [] = ⊤
NoneOf p (w ∷ ws) = w.from < p

-- the last group goes on with its newest call, or closes
abbrev pub advanced : List (List ℕ) → State → ℕ → List Waiting → State
advanced g s p [] = closed s p (is_cycle g s p)
advanced g s p (w ∷ ws) =
    if nat_le p w.from
    then followed g (record { stages = s.stages; stack = s.stack; starts = s.starts; waiting = ws }) w.to
    else closed s p (is_cycle g s p)

abbrev pub is_closed_true : Stage → Bool
is_closed_true New = false
is_closed_true (Open p) = false
is_closed_true (Closed b) = b
