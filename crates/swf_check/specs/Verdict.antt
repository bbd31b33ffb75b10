-- What is said of the bytes of a document.
use Rattle.std.specs.Prelude.{◌≡◌, ℕ, List, [], ◌∷◌, ◌++◌, Bool, true, false, codes, flat_map, length, nat_lt, Result, Ok, Err, if◌then◌else◌}
use Rattle.swf_text.specs.Pointer.{pointer}
use Rattle.swf_value.specs.Value.{Value}
use Rattle.swf_value.specs.Read.{read_within}
use Rattle.swf_value.specs.Written.{quoted}
use Rattle.swf_value.specs.declared.fault.ValueFault.{ValueFault}
use Rattle.swf_value.specs.declared.fault.ValueFault.TheVariants.{NotJson, TooDeep, NotWhole, OutOfMemory}
use Rattle.swf_document.specs.FaultWord.{fault_word}
use Rattle.swf_document.specs.declared.fault.Fault.{Fault}
use Rattle.swf_validate.specs.Accepts.{faults}
use Rattle.swf_host.specs.declared.host.Input.{Input}
use Rattle.swf_host.specs.declared.host.Input.TheVariants.{Ask, TooLong, Work, Idle, Closed}
use Rattle.swf_check.specs.declared.verdict.Verdict.{Verdict}

-- whether the document is accepted, and the lines that say so or why not
pub record Judged : Type 0 where
  pub accepted : Bool
  pub lines : List ℕ

abbrev pub line : List ℕ → List ℕ
line t = t ++ 10 ∷ []

-- a fault: its kind, a space, and its place, a JSON Pointer, as JSON text
abbrev pub fault_line : Fault → List ℕ
fault_line f = line (fault_word f.kind ++ 32 ∷ quoted (pointer f.place))

-- bytes that are no document for a reason of one word
abbrev pub refused : List ℕ → Judged
refused word = record { accepted = false; lines = line word }

abbrev pub judged_faults : List Fault → Judged
judged_faults [] = record { accepted = true; lines = line (codes "accepted") }
judged_faults (f ∷ fs) = record { accepted = false; lines = flat_map fault_line (f ∷ fs) }

abbrev pub judged_value : Result Value ValueFault → Judged
judged_value (Ok v) = judged_faults (faults v)
judged_value (Err NotJson) = refused (codes "not-json")
judged_value (Err TooDeep) = refused (codes "too-deep")
judged_value (Err NotWhole) = refused (codes "not-whole")
judged_value (Err OutOfMemory) = record { accepted = false; lines = [] }

-- the most bytes that a document may have
abbrev pub most_bytes : ℕ
most_bytes = 1048576

abbrev pub judged_bytes : List ℕ → Judged
judged_bytes bytes = if nat_lt most_bytes (length bytes) then refused (codes "too-long") else judged_value (read_within 64 bytes)

-- the document is what is asked first; where nothing is, it has no bytes
abbrev pub judged : {W : Type 0} → Input W → Judged
judged (Ask conn bytes) = judged_bytes bytes
judged (TooLong conn) = refused (codes "too-long")
judged (Work w) = judged_bytes []
judged Idle = judged_bytes []
judged Closed = judged_bytes []

abbrev pub status_of : Judged → ℕ
status_of j = if j.accepted then 0 else 1

-- what the code finds, unless memory runs out
abbrev pub IsJudged : {E : Type 0} → Judged → Result Verdict E → Type 0
IsJudged j (Ok v) = (v.accepted ≡ j.accepted) × (v.lines.items ≡ j.lines)
IsJudged j (Err e) = Unit {0}
