-- The word for each kind of fault.
use Rattle.std.specs.Prelude.{ℕ, List, codes}
use Rattle.swf_document.specs.declared.fault.FaultKind.{FaultKind}
use Rattle.swf_document.specs.declared.fault.FaultKind.TheVariants as kinds

abbrev pub fault_word : FaultKind → List ℕ
fault_word kinds.Missing = codes "missing"
fault_word kinds.WrongKind = codes "wrong-kind"
fault_word kinds.UnknownMember = codes "unknown-member"
fault_word kinds.BadText = codes "bad-text"
fault_word kinds.BadExpression = codes "bad-expression"
fault_word kinds.NotInProfile = codes "not-in-profile"
fault_word kinds.UnknownTarget = codes "unknown-target"
fault_word kinds.DuplicateName = codes "duplicate-name"
fault_word kinds.UnknownFunction = codes "unknown-function"
fault_word kinds.UnknownError = codes "unknown-error"
fault_word kinds.UnknownRetry = codes "unknown-retry"
fault_word kinds.FunctionCycle = codes "function-cycle"
fault_word kinds.ExportInFork = codes "export-in-fork"
fault_word kinds.UnknownVariable = codes "unknown-variable"
fault_word kinds.TooMany = codes "too-many"
