use Rattle.std.proofs.Common.{◌≡◌, ◌+◌, arith, subst, sym, true}
use Rattle.std.specs.Arc.{arc_value}
use Rattle.std.specs.Prelude.{is_some}
use Rattle.swf_document.specs.declared.document.Document.{Document}
use Rattle.swf_catalog.specs.Numbers.{numbered}
use Rattle.swf_catalog.proofs.ChildLemmas.{numbered-within}
use Rattle.swf_catalog.proofs.numbered.NumberedDocument.number_at.Goals as goal

pub overflow_add-result : goal.overflow_add-result
overflow_add-result c =
    let rs = c.self.inside.rows in
    let n = c.args.begin + c.args.place in
    let d = arc_value c.self.inside.document in
    let some : is_some (numbered d n) ≡ true = subst (λ (x : Document). is_some (numbered x n) ≡ true) (sym c.self.view_is) c.requires in
    omega (arith, numbered-within d rs.items n c.self.invariant.2 some, rs.ok.0, rs.ok.1, rs.small)
