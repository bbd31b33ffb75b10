use Rattle.std.proofs.Common.{◌≡◌, ◌∙◌, ◌+◌, ◌++◌, ap, length}
use Rattle.std.specs.Arc.{arc_value}
use Rattle.swf_document.specs.declared.document.Document.{Document}
use Rattle.swf_catalog.specs.Numbers.{all, begin, both}
use Rattle.swf_catalog.specs.Rows.{entries_of}
use Rattle.swf_catalog.proofs.FunctionLemmas.{functions-next, listed-rows}
use Rattle.swf_catalog.proofs.numbered.NumberedDocument.new.Goals as goal

pub invariant_of-result : goal.invariant_of-result
invariant_of-result c =
    let d = arc_value c.args.document in
    let rs = c.add_tasks.new.rows.items in
    let own : entries_of rs ≡ all 1 d.tasks = c.in_ok-begin.ensures.rows ∙ (λ i. entries_of (c.new-rows.ensures.items i) ++ all (length (c.new-rows.ensures.items i) + 1) (c.deref.ensures i).tasks) in (
      c.both.ensures ∙ ap both (c.in_ok-begin.ensures.begin ∙ (λ i. begin (length (c.new-rows.ensures.items i) + 1) (c.deref.ensures i).tasks)),
      c.in_ok-functions.ensures.begin ∙ ap (λ (x : Document). begin (length rs + 1) x.functions) c.deref-2.ensures ∙ functions-next d rs own,
      listed-rows d rs c.add_tasks-2.new.rows.items own (c.in_ok-functions.ensures.rows ∙ ap (λ (x : Document). entries_of rs ++ all (length rs + 1) x.functions) c.deref-2.ensures),
    )
