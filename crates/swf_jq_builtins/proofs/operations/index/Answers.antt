use Rattle.std.proofs.Common.{FitsSigned, ◌≡◌, ◌∙◌, ap, ap₂, sym, subst, Ok, arith, w64}
use Rattle.std.proofs.lemmas.Int.{to_z-of_z, ints}
use Rattle.swf_value.specs.Node.{node_value, items_of}
use Rattle.swf_value.specs.Value.{InRange, IsLevel, list, int}
use Rattle.swf_evaluation.specs.Operations.{index_of, item_at}
use Rattle.swf_jq_builtins.proofs.Lists.{values_of_items_of}
use Rattle.swf_jq_builtins.proofs.operations.index.Goals as goal

pub returns-in-List-Int : goal.returns-in-List-Int
returns-in-List-Int c =
    let z = c.in-List-Int.place in
    let xs = c.in-List-Int.items in
    let left : list (items_of xs) ≡ c.args.value.now = sym (ap node_value c.in-List-Int.is-0) ∙ c.node.ensures.value in
    let right : int z ≡ c.args.key.now = sym (ap node_value c.in-List-Int.is-1) ∙ c.node-2.ensures.value in
    let r : InRange z = subst IsLevel (sym right) c.node-2.ensures.level in
    let e : index_of c.args.value.now c.args.key.now ≡ Ok (item_at z c.as_slice.result.now) =
    ap₂ index_of (sym left) (sym right) ∙ ap (λ vs. Ok (item_at z vs)) (values_of_items_of xs ∙ sym c.as_slice.ensures) in
    let f : FitsSigned w64 z = omega (arith, ints) in
    rw e (rw (to_z-of_z w64 z f) at c.item_of.ensures)
