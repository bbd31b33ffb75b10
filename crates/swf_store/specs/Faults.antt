-- When a call may answer that the store failed.
use Rattle.std.specs.Prelude.{◌≡◌, ℕ, ◌+◌, ◌-◌, ◌^◌, ◌≤◌, min, Result, OnOk, OnErr}

-- a count has risen, or stands at the end of its type
abbrev pub Rose : ℕ → ℕ → Type 0
Rose before now = min (before + 1) (2 ^ 64 - 1) ≤ now

-- it has risen by one call
pub record RoseOnce (before now : ℕ) : Type 0 where
  pub rose : Rose before now
  pub later : before ≤ now
  pub once : now ≤ before + 1

-- the count has risen by one where the call failed, and it stays where the call was done
pub record HasCause {T E : Type 0} (before now : ℕ) (result : Result T E) : Type 0 where
  pub failed : OnErr result (RoseOnce before now)
  pub done : OnOk result (now ≡ before)
