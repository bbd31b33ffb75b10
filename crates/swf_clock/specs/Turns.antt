-- What an input of a server adds by itself, before the steps that end its turn.
use Rattle.std.specs.Prelude.{ℕ, List, [], ◌∷◌, ◌++◌, Bool, Option, Some, None, if◌then◌else◌}
use Rattle.swf_clock.specs.Clocks.{after_telling, at_once, ahead}

-- an outcome is handed in; a clock tells so many milliseconds; anything else comes, which adds nothing
pub data Came (O : Type 0) : Type 0 where
  outcome : O → Came O
  moment : ℕ → Came O
  other : Came O

-- what turns need of a meaning, by the labels before
pub record Meaning (O L : Type 0) : Type 0 where
  -- the label of a moment, and that of an outcome
  pub reached : ℕ → L
  pub handed : O → L
  -- the present moment
  pub now : List L → ℕ
  -- a moment is above it, and some wait is over at it
  pub is_due : List L → ℕ → Bool
  pub is_refused : List L → O → Bool

-- the label of a moment, if there is one
abbrev pub moments : {O L : Type 0} → Meaning O L → Option ℕ → List L
moments m None = []
moments m (Some t) = m.reached t ∷ []

-- some first labels, and behind them that of an outcome, unless it is refused there
abbrev pub behind : {O L : Type 0} → Meaning O L → List L → List L → O → List L
behind m before first o = first ++ (if m.is_refused (before ++ first) o then [] else m.handed o ∷ [])

-- what an input adds behind some labels, where that moment was told last
abbrev pub own : {O L : Type 0} → Meaning O L → Option ℕ → List L → Came O → List L
own m last before (outcome o) = behind m before (moments m (ahead last (m.now before))) o
own m last before (moment t) = moments m (at_once t (m.is_due before t))
own m last before other = []

-- the last moment that was told, after one more input, and after several
abbrev pub told_in : {O : Type 0} → Option ℕ → Came O → Option ℕ
told_in last (outcome o) = last
told_in last (moment t) = after_telling last t
told_in last other = last

abbrev pub last_told : {O : Type 0} → Option ℕ → List (Came O) → Option ℕ
last_told last [] = last
last_told last (i ∷ is) = last_told (told_in last i) is
