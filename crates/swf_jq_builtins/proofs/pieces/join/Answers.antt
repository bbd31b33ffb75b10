use Rattle.std.proofs.Common.{◌≡◌, ◌∙◌, ap, ap₂, sym}
use Rattle.swf_value.specs.Node.{node_value, items_of}
use Rattle.swf_value.specs.Value.{list, text}
use Rattle.swf_evaluation.specs.Builtins.{join, joined_or_not, pieces_of}
use Rattle.swf_jq_builtins.proofs.Joins.{join_is}
use Rattle.swf_jq_builtins.proofs.pieces.join.Goals as goal

pub returns-in-List-Text : goal.returns-in-List-Text
returns-in-List-Text c =
    let vs = c.in-List-Text.items in
    let s = c.in-List-Text.separator in
    let left : list (items_of vs) ≡ c.args.value.now = sym (ap node_value c.in-List-Text.is-0) ∙ c.node.ensures.value in
    let right : text s ≡ c.args.separator.now = sym (ap node_value c.in-List-Text.is-1) ∙ c.node-2.ensures.value in
    let e : join c.args.value.now c.args.separator.now ≡ joined_or_not s (pieces_of c.as_slice.result.now) =
    ap₂ join (sym left) (sym right) ∙ join_is vs s ∙ ap (λ l. joined_or_not s (pieces_of l)) (sym c.as_slice.ensures) in
    rw e c.join_items.ensures
