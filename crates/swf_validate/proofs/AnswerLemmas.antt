-- What the answer of reading says of the document, or of the faults.
use Rattle.std.proofs.Common.{◌≡◌, ◌≢◌, ◌⊎◌, inl, inr, refl, ap, ◌∙◌, List, [], ◌∷◌, Result, Ok, Err}
use Rattle.swf_value.specs.Value.{Value}
use Rattle.swf_document.specs.declared.document.Document.{Document}
use Rattle.swf_document.specs.declared.fault.Fault.{Fault}
use Rattle.swf_shapes.specs.Faults.{read_faults}
use Rattle.swf_reader.specs.Answer.{answer, document_or_faults}
use Rattle.swf_reader.specs.Reads.{document_of, Reads}
use Rattle.swf_reader.specs.declared.document.ReadFault.{ReadFault}
use Rattle.swf_reader.specs.declared.document.ReadFault.TheVariants.{Faults, OutOfMemory}
use Rattle.swf_validate.specs.Accepts.{or_scope, faults}
use Rattle.swf_validate.specs.DocumentFaults.{scope_faults}

-- where there are no faults the document is answered
answered_document : (fs : List Fault) (d e : Document) (r : Result Document ReadFault) → (r ≡ Err OutOfMemory) ⊎ (r ≡ answer fs d) → r ≡ Ok e → (fs ≡ []) × (d ≡ e)
answered_document [] d e r (inl h) k = cc
answered_document [] d e r (inr h) k = (refl, cc)
answered_document (f ∷ fs) d e r (inl h) k = cc
answered_document (f ∷ fs) d e r (inr h) k = cc

-- else the faults are
answered_faults : (fs gs : List Fault) (d : Document) (r : Result Document ReadFault) → (r ≡ Err OutOfMemory) ⊎ (r ≡ answer fs d) → r ≡ Err (Faults gs) → (gs ≡ or_scope d fs) × (gs ≢ [])
answered_faults [] gs d r (inl h) k = cc
answered_faults [] gs d r (inr h) k = cc
answered_faults (f ∷ fs) gs d r (inl h) k = cc
answered_faults (f ∷ fs) gs d r (inr h) k = (cc, λ e. cc)

-- a document that reading answered is what the value reads as
pub read_from_answer : (v : Value) (d : Document) (r : Result Document ReadFault) → (r ≡ Err OutOfMemory) ⊎ (r ≡ document_or_faults v) → r ≡ Ok d → Reads v d
read_from_answer v d r h k = answered_document (read_faults v) (document_of v) d r h k

-- faults that reading answered are those of the value
pub faults_from_answer : (v : Value) (gs : List Fault) (r : Result Document ReadFault) → (r ≡ Err OutOfMemory) ⊎ (r ≡ document_or_faults v) → r ≡ Err (Faults gs) → (gs ≡ faults v) × (gs ≢ [])
faults_from_answer v gs r h k = answered_faults (read_faults v) gs (document_of v) r h k

-- a value that reads as a document has its faults of scope
pub faults_of_read : (v : Value) (d : Document) → Reads v d → faults v ≡ scope_faults d
faults_of_read v d h = ap (or_scope (document_of v)) h.0 ∙ ap scope_faults h.1
