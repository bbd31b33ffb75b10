use Rattle.std.proofs.Common.{◌∙◌, ap, sym, true, false}
use Rattle.swf_meaning.specs.Documents.{same_name}
use Rattle.swf_catalog.proofs.VersionLemmas.{more_versions}
use Rattle.swf_catalog.proofs.documents.Documents.last_version.Goals as goal
use Rattle.swf_catalog.proofs.documents.Documents.last_version.Goals.{then-same_name, else-same_name}

pub loop-number-preserved : goal.loop-number-preserved
loop-number-preserved c =
    elim c.if-same_name.branch [
      | then-same_name w ↦ more_versions c.args.key.now c.self.inside.by_key.entries c.loop-number.number c.args.key.now.version c.loop-number.version.now c.index-loaded.result.now true
          c.index-loaded.ensures c.loop-number.invariant (sym w.if-same_name.true ∙ c.same_name.ensures ∙ ap (λ d. same_name c.args.key.now d.key) (c.document-document.ensures ∙ c.get.ensures))
          ∙ sym (ap (λ d. d.key.version) (c.document-document.ensures ∙ c.get.ensures)) ∙ sym (ap (λ r. r.now) w.version-is)
      | else-same_name w ↦ more_versions c.args.key.now c.self.inside.by_key.entries c.loop-number.number c.args.key.now.version c.loop-number.version.now c.index-loaded.result.now false
          c.index-loaded.ensures c.loop-number.invariant (sym w.if-same_name.false ∙ c.same_name.ensures ∙ ap (λ d. same_name c.args.key.now d.key) (c.document-document.ensures ∙ c.get.ensures))
          ∙ sym (ap (λ r. r.now) w.version-is)
    ]
