use Rattle.std.proofs.Common.{◌≡◌, ◌∙◌, ◌++◌, ◌∷◌, [], None, ap}
use Rattle.std.proofs.lemmas.List.{map-append}
use Rattle.std.proofs.lemmas.Result.{IfOk-at_ok}
use Rattle.std.specs.Map.{lookup}
use Rattle.indexmap.proofs.CallerLemmas.{insert_entry-new}
use Rattle.swf_meaning.specs.Documents.{document_at}
use Rattle.swf_catalog.specs.Loads.{loaded_of}
use Rattle.swf_catalog.specs.Loads.{doc_eq}
use Rattle.swf_catalog.proofs.DocumentLemmas.{named_pushed, no_document}
use Rattle.swf_catalog.proofs.documents.Documents.add.Goals as goal

pub invariant_of-self : goal.invariant_of-self
invariant_of-self c =
    let es = c.self.inside.by_key.entries in
    let new : lookup (doc_eq c.args.key) es ≡ None = no_document c.args.key es c.self.invariant (ap (λ h. document_at c.args.key h.documents) c.self.view_is ∙ c.requires.new) in
    rw (IfOk-at_ok _ c.unwrap.ensures c.insert.ensures.entries, insert_entry-new doc_eq c.self.inside.by_key c.args.key c.args.loaded new)
    (named_pushed es (c.args.key, c.args.loaded) c.self.invariant c.requires.named)

pub returns : goal.returns
returns c =
    let es = c.self.inside.by_key.entries in
    let new : lookup (doc_eq c.args.key) es ≡ None = no_document c.args.key es c.self.invariant (ap (λ h. document_at c.args.key h.documents) c.self.view_is ∙ c.requires.new) in
    rw (IfOk-at_ok _ c.unwrap.ensures c.insert.ensures.entries, insert_entry-new doc_eq c.self.inside.by_key c.args.key c.args.loaded new)
    (map-append (λ e. loaded_of e.1) es ((c.args.key, c.args.loaded) ∷ []) ∙ ap (λ h. h.documents ++ loaded_of c.args.loaded ∷ []) c.self.view_is)
