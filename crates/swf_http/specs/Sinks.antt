-- What a sink that tells its bytes took.
use Rattle.std.specs.Prelude.{◌≡◌, ℕ, ◌<◌, List, ◌++◌, length, take, Option, Some, Result, Ok, Err}
use Rattle.swf_store.specs.Faults.{RoseOnce}

-- after a write: so many bytes more, or none after a failure
abbrev pub AfterWrite : {E : Type 0} → List ℕ → Result ℕ E → Option (List ℕ) → Option (List ℕ) → Type 0
AfterWrite bytes (Ok n) old new = (before : List ℕ) → old ≡ Some before → new ≡ Some (before ++ take n bytes)
AfterWrite bytes (Err e) old new = new ≡ old

-- the count rises by one where a write fails, or takes nothing of bytes that are not empty
abbrev pub WriteCause : {E : Type 0} → List ℕ → Result ℕ E → ℕ → ℕ → Type 0
WriteCause bytes (Ok n) before now = (0 < n → now ≡ before) × (n ≡ 0 → 0 < length bytes → RoseOnce before now)
WriteCause bytes (Err e) before now = RoseOnce before now

-- what was written is the old, and a first part of the bytes
pub record WrotePart (bytes old new : List ℕ) : Type 0 where
  pub part : List ℕ
  pub rest : List ℕ
  pub begins : bytes ≡ part ++ rest
  pub is : new ≡ old ++ part

-- after all was to be written: all of the bytes, or a first part of them after a failure
abbrev pub AfterWriteAll : {T E : Type 0} → List ℕ → Result T E → Option (List ℕ) → Option (List ℕ) → Type 0
AfterWriteAll bytes (Ok x) old new = (before : List ℕ) → old ≡ Some before → new ≡ Some (before ++ bytes)
AfterWriteAll bytes (Err e) old new =
    (before : List ℕ) → old ≡ Some before → (after : List ℕ) × (new ≡ Some after) × WrotePart bytes before after
