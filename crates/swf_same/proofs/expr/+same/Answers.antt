use Rattle.std.proofs.Common.{◌≡◌, ◌∙◌, ap, sym, arith, length}
use Rattle.swf_expr.specs.Expr.{apply}
use Rattle.swf_expr.specs.ExprNode.{node_tree, trees_of}
use Rattle.swf_same.proofs.Lighter.{weight_tree, weight_member}
use Rattle.swf_same.proofs.Trees.{trees_of_one, pairs_long}
use Rattle.swf_same.proofs.expr.+same.Goals as goal

pub same_members-returns-then-a-b : goal.same_members-returns-then-a-b
same_members-returns-then-a-b t c =
    (λ p. absurd (cc p), λ e. let n : length c.args.a.now ≡ length c.args.b.now = pairs_long _ _ e in absurd (omega (arith)))

pub same_members-same_member-requires : goal.same_members-same_member-requires
same_members-same_member-requires t c =
    (omega (arith, weight_member c.args.a.now c.loop-i.i c.index-a-i.result c.loop-i-test.true c.index-a-i.is), tt)

pub same_node-returns-then-is_same-3 : goal.same_node-returns-then-is_same-3
same_node-returns-then-is_same-3 t c =
    let a = c.in-Apply-Apply.a.items in
    let b = c.in-Apply-Apply.b.items in
    let f = c.in-Apply-Apply.f in
    let g = c.in-Apply-Apply.g in
    let p : node_tree c.args.a.now ≡ apply f (trees_of a) = ap node_tree c.in-Apply-Apply.is-0 in
    let q : node_tree c.args.b.now ≡ apply g (trees_of b) = ap node_tree c.in-Apply-Apply.is-1 in
    let d : c.deref-then-is_same-3.result.now ≡ a = c.deref-then-is_same-3.ensures.value in
    let e : c.deref-then-is_same-3-2.result.now ≡ b = c.deref-then-is_same-3-2.ensures.value in
    let h : f ≡ g = c.is_same-in-Apply-Apply.ensures.0 c.if-is_same-3.true in (
      λ s. let l : a ≡ b = sym d ∙ c.same_trees.ensures.0 s ∙ e in p ∙ (λ i. apply (h i) (trees_of (l i))) ∙ sym q,
      λ r. let l : trees_of a ≡ trees_of b = cc (p, q, r) in c.same_trees.ensures.1 (d ∙ trees_of_one a b l ∙ sym e),
    )

pub same_trees-same_tree-requires : goal.same_trees-same_tree-requires
same_trees-same_tree-requires t c =
    (omega (arith, weight_tree c.args.a.now c.loop-i.i c.index-a-i.result c.loop-i-test.true c.index-a-i.is), tt)
