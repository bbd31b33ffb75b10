use Rattle.std.proofs.Common.{◌≡◌, ◌∙◌, sym, []}
use Rattle.std.proofs.lemmas.Result.{IfOk-weaker}
use Rattle.swf_document.specs.declared.document.Document.{Document}
use Rattle.swf_reader.specs.Reads.{document_of}
use Rattle.swf_validate.specs.Accepts.{faults}
use Rattle.swf_validate.specs.DocumentFaults.{scope_faults}
use Rattle.swf_validate.proofs.AnswerLemmas.{read_from_answer, faults_of_read}
use Rattle.swf_validate.proofs.accepted.accept.Goals as goal

pub returns-clause-accepted : goal.returns-clause-accepted
returns-clause-accepted c =
    let v = c.args.value.now in
    let d = c.in_ok-document.document in
    let read = read_from_answer v d c.read_document.result c.read_document.ensures c.in_ok-document.was in
    let same = faults_of_read v d read in
    IfOk-weaker c.validate.result
    (λ (a : Document). (a ≡ d) × (scope_faults d ≡ []))
    (λ (a : Document). (a ≡ document_of v) × (faults v ≡ []))
    (λ a h. (h.0 ∙ sym read.1, same ∙ h.1))
    c.validate.ensures.accepted

pub returns-clause-refused : goal.returns-clause-refused
returns-clause-refused c = λ fs e.
    let v = c.args.value.now in
    let d = c.in_ok-document.document in
    let read = read_from_answer v d c.read_document.result c.read_document.ensures c.in_ok-document.was in
    let told = c.validate.ensures.refused fs e in
    (told.0 ∙ sym (faults_of_read v d read), told.1)
