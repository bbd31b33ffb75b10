-- The word for each kind of fault.
use Rattle.std.specs.Prelude.{ℕ, List, codes}
use Rattle.swf_cloudevents.specs.declared.fault.FaultKind.{FaultKind}
use Rattle.swf_cloudevents.specs.declared.fault.FaultKind.TheVariants as kinds

abbrev pub fault_word : FaultKind → List ℕ
fault_word kinds.Missing = codes "missing"
fault_word kinds.WrongKind = codes "wrong-kind"
fault_word kinds.Empty = codes "empty"
fault_word kinds.BadValue = codes "bad-value"
fault_word kinds.Conflict = codes "conflict"
fault_word kinds.BadName = codes "bad-name"
