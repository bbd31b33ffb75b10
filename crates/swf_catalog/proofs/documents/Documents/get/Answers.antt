use Rattle.std.proofs.Common.{◌∙◌, ap, option_map}
use Rattle.swf_meaning.specs.Documents.{document_at}
use Rattle.swf_catalog.proofs.DocumentLemmas.{document_lookup}
use Rattle.swf_catalog.proofs.documents.Documents.get.Goals as goal

pub returns-in_err-loaded : goal.returns-in_err-loaded
returns-in_err-loaded c =
    ap (option_map (λ d. d.now)) c.from_residual.ensures ∙ ap (option_map (λ l. l.document)) c.in_err-loaded.ensures.value ∙ document_lookup c.args.key.now c.self.inside.by_key.entries c.self.invariant
    ∙ ap (λ h. document_at c.args.key.now h.documents) c.self.view_is

pub returns : goal.returns
returns c = ap (option_map (λ l. l.document)) c.in_ok-loaded.ensures.value ∙ document_lookup c.args.key.now c.self.inside.by_key.entries c.self.invariant ∙ ap (λ h. document_at c.args.key.now h.documents) c.self.view_is
