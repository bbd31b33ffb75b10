-- A script that a host follows, and what it does at each call.
use Rattle.std.specs.Prelude.{◌≡◌, ◌+◌, ◌-◌, ◌/◌, ◌^◌, ◌⊎◌, ◌==◌, ℕ, min, if◌then◌else◌, is_some, Bool, true, false, List, [], ◌∷◌, ◌++◌, length, take, Option, Some, None, Result, Ok, Err, slice_get}
use Rattle.std.specs.List.{list_any}
use Rattle.swf_host.specs.declared.host.Input.{Input}
use Rattle.swf_host.specs.declared.host.Input.TheVariants.{Idle, Closed}
use Rattle.swf_host.specs.declared.script.Said.{Said}
use Rattle.swf_host.specs.declared.script.Script.{Script}
use Rattle.swf_host.specs.declared.script.Turn.{Turn}
use Rattle.swf_host.specs.declared.script.Turn.TheVariants.{In}
use Rattle.swf_host.specs.Taken.{is_awaited}

-- what a host in memory follows and has done
pub record Play (G W : Type 0) : Type 0 where
  -- the turns, and how many of them were taken
  pub script : List (Turn W)
  pub at : ℕ
  -- the numbers, from 0, of the calls of `next` and of `say` that fail
  pub failing_next : List ℕ
  pub failing_say : List ℕ
  -- how many such calls there were
  pub nexts : ℕ
  pub says : ℕ
  pub taken : List (Input W)
  pub said : List Said
  pub given : List G
  -- how many calls failed, and of how many of these want of memory was the cause
  pub faults : ℕ
  pub lacks : ℕ

abbrev pub play : {G W : Type 0} → Script G W → Play G W
play s = record { script = s.turns.items; at = s.at; failing_next = s.failing_next.items; failing_say = s.failing_say.items; nexts = s.nexts; says = s.says; taken = s.taken.items; said = s.said.items; given = s.given.items; faults = s.faults; lacks = s.lacks }

abbrev pub first_play : {G W : Type 0} → List (Turn W) → List ℕ → List ℕ → Play G W
first_play script failing_next failing_say = record { script = script; at = 0; failing_next = failing_next; failing_say = failing_say; nexts = 0; says = 0; taken = []; said = []; given = []; faults = 0; lacks = 0 }

-- one more, up to the greatest number
abbrev pub more : ℕ → ℕ
more n = min (n + 1) (2 ^ 64 - 1)

abbrev pub is_among : ℕ → List ℕ → Bool
is_among n ns = list_any (λ m. m == n) ns

abbrev pub failed : {G W : Type 0} → Play G W → Play G W
failed p = record p { faults = more p.faults }

abbrev pub lacked : {G W : Type 0} → Play G W → Play G W
lacked p = record p { faults = more p.faults; lacks = more p.lacks }

abbrev pub next_counted : {G W : Type 0} → Play G W → Play G W
next_counted p = record p { nexts = more p.nexts }

abbrev pub say_counted : {G W : Type 0} → Play G W → Play G W
say_counted p = record p { says = more p.says }

abbrev pub input_of : {W : Type 0} → Bool → Option (Turn W) → Option (Input W)
input_of only_work None = None
input_of only_work (Some (In i)) = if is_awaited only_work i then Some i else None

-- the input of the next turn, where the call waits for such a one
abbrev pub at_hand : {G W : Type 0} → Bool → Play G W → Option (Input W)
at_hand only_work p = input_of only_work (slice_get p.script p.at)

abbrev pub or_none : {W : Type 0} → Bool → Option (Input W) → Input W
or_none only_work (Some i) = i
or_none true None = Idle
or_none false None = Closed

-- what a call is answered: that input, or that none comes
abbrev pub coming : {G W : Type 0} → Bool → Play G W → Input W
coming only_work p = or_none only_work (at_hand only_work p)

-- a turn that is not at hand is left where it is
abbrev pub input_taken : {G W : Type 0} → Bool → Input W → Play G W → Play G W
input_taken only_work i p = record p { at = (if is_some (at_hand only_work p) then more p.at else p.at); taken = p.taken ++ i ∷ [] }

abbrev pub job_given : {G W : Type 0} → G → Play G W → Play G W
job_given job p = record p { given = p.given ++ job ∷ [] }

-- a piece, after so many inputs and so many calls of the store
abbrev pub piece_said : {G W : Type 0} → ℕ → List ℕ → ℕ → Play G W → Play G W
piece_said conn bytes calls p = record p { said = p.said ++ (record { conn = conn; bytes = bytes; inputs = length p.taken; calls = calls }) ∷ [] }

-- a call of `next` fails exactly where its number is listed, or memory is missing; else it gives what comes
abbrev pub AfterNext : {G W E : Type 0} → Bool → Play G W → Result (Input W) E → Play G W → Type 0
AfterNext only_work p (Ok i) q = (is_among p.nexts p.failing_next ≡ false) × (i ≡ coming only_work p) × (q ≡ input_taken only_work i (next_counted p))
AfterNext only_work p (Err e) q = ((is_among p.nexts p.failing_next ≡ true) × (q ≡ failed (next_counted p))) ⊎ ((is_among p.nexts p.failing_next ≡ false) × (q ≡ lacked (next_counted p)))

-- the first half of some bytes
abbrev pub half : List ℕ → List ℕ
half bytes = take (length bytes / 2) bytes

-- A call of `say` fails exactly where its number is listed, or memory is missing. Else the bytes are kept whole, and of a call whose
-- number is listed the first half.
abbrev pub AfterSaid : {G W T E : Type 0} → ℕ → List ℕ → ℕ → Play G W → Result T E → Play G W → Type 0
AfterSaid conn bytes calls p (Ok u) q = (is_among p.says p.failing_say ≡ false) × (q ≡ piece_said conn bytes calls (say_counted p))
AfterSaid conn bytes calls p (Err e) q = ((is_among p.says p.failing_say ≡ true) × (q ≡ failed (piece_said conn (half bytes) calls (say_counted p)))) ⊎ (q ≡ lacked (say_counted p))
