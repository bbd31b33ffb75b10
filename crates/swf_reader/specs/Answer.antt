-- What reading a value as a document answers.
use Rattle.std.specs.Prelude.{List, [], ◌∷◌, Result, Ok, Err}
use Rattle.swf_value.specs.Value.{Value}
use Rattle.swf_document.specs.declared.document.Document.{Document}
use Rattle.swf_document.specs.declared.fault.Fault.{Fault}
use Rattle.swf_shapes.specs.Faults.{read_faults}
use Rattle.swf_reader.specs.Reads.{document_of}
use Rattle.swf_reader.specs.declared.document.ReadFault.{ReadFault}
use Rattle.swf_reader.specs.declared.document.ReadFault.TheVariants.{Faults}

abbrev pub answer : List Fault → Document → Result Document ReadFault
answer [] d = Ok d
answer (f ∷ fs) d = Err (Faults (f ∷ fs))

-- all faults of the value, or where it has none the document that it is
abbrev pub document_or_faults : Value → Result Document ReadFault
document_or_faults v = answer (read_faults v) (document_of v)
