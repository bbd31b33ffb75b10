-- The faults of a value: those of reading, and where it has none those of scope.
use Rattle.std.specs.Prelude.{List, [], ◌∷◌}
use Rattle.swf_value.specs.Value.{Value}
use Rattle.swf_document.specs.declared.document.Document.{Document}
use Rattle.swf_document.specs.declared.fault.Fault.{Fault}
use Rattle.swf_shapes.specs.Faults.{read_faults}
use Rattle.swf_reader.specs.Reads.{document_of, Reads}
use Rattle.swf_validate.specs.DocumentFaults.{scope_faults}

abbrev pub or_scope : Document → List Fault → List Fault
or_scope d [] = scope_faults d
or_scope d (f ∷ fs) = f ∷ fs

abbrev pub faults : Value → List Fault
faults v = or_scope (document_of v) (read_faults v)

-- some value is this document
abbrev pub IsRead : Document → Type 0
IsRead d = (v : Value) × Reads v d
