use Rattle.std.proofs.Common.{◌≡◌, ◌∙◌, ap, ap₂, Ok}
use Rattle.swf_value.specs.Node.{items_of}
use Rattle.swf_value.specs.Value.{list}
use Rattle.swf_evaluation.specs.Builtins.{sorted_values}
use Rattle.swf_evaluation.specs.Operations.{without}
use Rattle.swf_jq_builtins.proofs.Searches.{without_sorted}
use Rattle.swf_jq_builtins.proofs.operations.remaining_items.Goals as goal

pub returns : goal.returns
returns c =
    let xs = c.args.left.now in
    let ws = c.args.right.now in
    let sorted : c.deref.result.now ≡ sorted_values ws = c.deref.ensures.value ∙ c.in_ok-sort_values.ensures.is ∙ ap sorted_values c.in_ok-others.ensures in
    let kept : c.remaining-kept.result.items ≡ without xs ws = c.remaining-kept.ensures ∙ ap₂ without c.in_ok-copies.ensures sorted ∙ without_sorted xs ws in
    ap Ok (c.in_ok-list.ensures ∙ ap (λ l. list (items_of l)) kept)
