-- A document that waits a second, as outcome 0, and an instance of it, as outcome 1; a second load or start is refused.
use Rattle.std.specs.Prelude.{◌==◌, ◌&&◌, ◌+◌, ℕ, List, [], ◌∷◌, Bool, false, nat_lt, nat_le, if◌then◌else◌}
use Rattle.std.specs.List.{list_any}
use Rattle.swf_clock.specs.Turns.{Meaning}

pub data Label : Type 0 where
  handed : ℕ → Label
  reached : ℕ → Label
  step : Label

-- the moment of the last label that is one, from a first moment on
abbrev pub now_from : ℕ → List Label → ℕ
now_from now [] = now
now_from now (handed n ∷ ls) = now_from now ls
now_from now (reached t ∷ ls) = now_from t ls
now_from now (step ∷ ls) = now_from now ls

abbrev pub is_outcome : ℕ → Label → Bool
is_outcome n (handed m) = m == n
is_outcome n (reached t) = false
is_outcome n step = false

-- the instance waits until a second after the moment at which it was started
abbrev pub until_from : ℕ → List Label → ℕ
until_from now [] = 0
until_from now (handed n ∷ ls) = if n == 1 then now + 1000 else until_from now ls
until_from now (reached t ∷ ls) = until_from t ls
until_from now (step ∷ ls) = until_from now ls

abbrev pub second : Meaning ℕ Label
second = record {
  reached = reached;
  handed = handed;
  now = now_from 0;
  is_due = λ ls t. list_any (is_outcome 1) ls && nat_lt (now_from 0 ls) t && nat_le (until_from 0 ls) t;
  is_refused = λ ls n. list_any (is_outcome n) ls;
}
