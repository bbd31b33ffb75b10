-- What bytes say of what is to be read from their front, however they come.
use Rattle.std.specs.Prelude.{◌≡◌, ◌⊎◌, ℕ, List, Result, Ok, Err, ⊤}
use Rattle.swf_http.specs.declared.fault.HttpFault.{HttpFault}
use Rattle.swf_http.specs.declared.fault.HttpFault.TheVariants.{Read, Ended, TooLong, BadMessage, OutOfMemory}

-- it is there, and these bytes behind it; or they end within it, are too many for it, or begin none
pub data Verdict (A : Type 0) : Type 0 where
  whole : A → List ℕ → Verdict A
  ended long bad : Verdict A

-- what stops the first stops the whole
abbrev pub Stops : {A B : Type 0} → (List ℕ → Verdict A → Type 0) → List ℕ → Verdict B → Type 0
Stops J bytes (whole b rest) = ⊥
Stops J bytes ended = J bytes ended
Stops J bytes long = J bytes long
Stops J bytes bad = J bytes bad

-- first the one, and then what follows from it and the bytes behind it
abbrev pub Then : {A B : Type 0} → (List ℕ → Verdict A → Type 0) → (A → List ℕ → Verdict B → Type 0) → List ℕ → Verdict B → Type 0
Then {A} J Next bytes v = ((a : A) × (rest : List ℕ) × J bytes (whole a rest) × Next a rest v) ⊎ Stops J bytes v

-- all bytes have one verdict at most
abbrev pub OneVerdict : {A : Type 0} → (List ℕ → Verdict A → Type 0) → Type 0
OneVerdict {A} J = (bytes : List ℕ) (v w : Verdict A) → J bytes v → J bytes w → v ≡ w

-- what a fault says of bytes: their verdict, unless a read failed or memory was missing
abbrev pub FaultSays : {A : Type 0} → (List ℕ → Verdict A → Type 0) → List ℕ → HttpFault → Type 0
FaultSays J bytes Read = ⊤
FaultSays J bytes Ended = J bytes ended
FaultSays J bytes TooLong = J bytes long
FaultSays J bytes BadMessage = J bytes bad
FaultSays J bytes OutOfMemory = ⊤

-- what a reader answers of bytes
abbrev pub Answers : {A T : Type 0} → (List ℕ → Verdict A → Type 0) → (A → T → Type 0) → List ℕ → Result T HttpFault → Type 0
Answers {A} J Is bytes (Ok t) = (a : A) × (rest : List ℕ) × J bytes (whole a rest) × Is a t
Answers J Is bytes (Err e) = FaultSays J bytes e
