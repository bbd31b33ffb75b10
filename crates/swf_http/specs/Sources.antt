-- What a source that tells its bytes gives.
use Rattle.std.specs.Prelude.{◌≡◌, ℕ, ◌<◌, ◌≤◌, List, [], ◌++◌, length, take, drop, Option, Some, Result, Ok, Err, ⊤}
use Rattle.swf_store.specs.Faults.{RoseOnce}
use Rattle.swf_http.specs.declared.fault.HttpFault.{HttpFault}
use Rattle.swf_http.specs.declared.fault.HttpFault.TheVariants.{Read, Ended, TooLong, BadMessage, OutOfMemory}

-- the first n bytes were given, and the rest is left; none are given only at the end
pub record Gives (n : ℕ) (into bytes : List ℕ) (left : Option (List ℕ)) : Type 0 where
  pub some : n ≤ length bytes
  pub given : take n into ≡ take n bytes
  pub left_is : left ≡ Some (drop n bytes)
  pub at_end : n ≡ 0 → 0 < length into → bytes ≡ []

-- a buffer grew by the first n bytes of what was left
pub record Grows (n : ℕ) (before after rest : List ℕ) (left : Option (List ℕ)) : Type 0 where
  pub some : n ≤ length rest
  pub grown : after ≡ before ++ take n rest
  pub left_is : left ≡ Some (drop n rest)
  pub at_end : n ≡ 0 → rest ≡ []

-- of the bytes some were read, and the rest is left
pub record Splits (bytes front : List ℕ) (left : Option (List ℕ)) : Type 0 where
  pub rest : List ℕ
  pub left_is : left ≡ Some rest
  pub whole_is : bytes ≡ front ++ rest

-- a fault comes from the source or from memory
abbrev pub IsReadFault : {T : Type 0} → Result T HttpFault → Type 0
IsReadFault (Ok x) = ⊤
IsReadFault (Err Read) = ⊤
IsReadFault (Err Ended) = ⊥
IsReadFault (Err TooLong) = ⊥
IsReadFault (Err BadMessage) = ⊥
IsReadFault (Err OutOfMemory) = ⊤

-- the count of faults has risen by one exactly where a read failed
abbrev pub ReadCause : {T : Type 0} → Result T HttpFault → ℕ → ℕ → Type 0
ReadCause (Ok x) before now = now ≡ before
ReadCause (Err Read) before now = RoseOnce before now
ReadCause (Err Ended) before now = now ≡ before
ReadCause (Err TooLong) before now = now ≡ before
ReadCause (Err BadMessage) before now = now ≡ before
ReadCause (Err OutOfMemory) before now = now ≡ before
