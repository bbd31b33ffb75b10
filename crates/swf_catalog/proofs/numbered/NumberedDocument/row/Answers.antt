use Rattle.std.proofs.Common.{◌≡◌, ◌∙◌, ◌-◌, ◌≤◌, ap, arith, length, refl, subst, sym, true}
use Rattle.std.proofs.lemmas.Option.{slice_get_read}
use Rattle.std.specs.Arc.{arc_value}
use Rattle.std.specs.Prelude.{is_some, slice_get}
use Rattle.swf_document.specs.declared.document.Document.{Document}
use Rattle.swf_catalog.specs.Numbers.{entries, numbered}
use Rattle.swf_catalog.proofs.ChildLemmas.{numbered-within, row-entry}
use Rattle.swf_catalog.proofs.numbered.NumberedDocument.row.Goals as goal

pub returns : goal.returns
returns c =
    let rs = c.self.inside.rows.items in
    let n = c.args.number in
    let d = arc_value c.self.inside.document in
    let some : is_some (numbered d n) ≡ true = subst (λ (x : Document). is_some (numbered x n) ≡ true) (sym c.self.view_is) c.requires in
    let most : n ≤ length rs = numbered-within d rs n c.self.invariant.2 some in
    ap (λ x. slice_get (entries x) n) (sym c.self.view_is)
    ∙ row-entry d rs n c.index.result.now c.self.invariant.2 c.if-number-eq0.false (slice_get_read rs (length rs) (n - 1) c.index.result.now refl (omega (arith, most, c.if-number-eq0.false)) c.index.ensures)
