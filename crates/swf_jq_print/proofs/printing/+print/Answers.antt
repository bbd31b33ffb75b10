use Rattle.std.proofs.Common.{◌∙◌, ap, sym, ◌++◌, arith}
use Rattle.swf_expr.specs.ExprNode.{node_tree, trees_of}
use Rattle.swf_jq_print.specs.Print.{arguments_text}
use Rattle.swf_jq_print.proofs.PrintingSteps.{weight_argument, weight_member, on_ok, apply_last}
use Rattle.swf_jq_print.proofs.printing.+print.Goals as goal

pub write_arguments-write-requires : goal.write_arguments-write-requires
write_arguments-write-requires t c =
    (omega (arith, weight_argument c.args.arguments.now c.loop-index.index c.index-arguments-index.result c.loop-index-test.true c.index-arguments-index.is), tt)

pub write_object-write_member-requires : goal.write_object-write_member-requires
write_object-write_member-requires t c =
    (omega (arith, weight_member c.args.members.now c.loop-index.index c.index-members-index.result c.loop-index-test.true c.index-members-index.is), tt)

pub write-returns-in_ok-push_ascii-in-Apply-clause-text : goal.write-returns-in_ok-push_ascii-in-Apply-clause-text
write-returns-in_ok-push_ascii-in-Apply-clause-text t c =
    let given = trees_of c.in-Apply.arguments.items in
    let whole = sym (ap node_tree c.in-Apply.is) ∙ c.node.ensures.value in
    let named = c.in_ok-push_ascii-in-Apply.ensures ∙ ap (λ l. c.args.out.now.text ++ l) c.name.ensures in
    on_ok c.write_arguments.result
    (λ e. apply_last c.in-Apply.builtin given c.args.expr.now c.args.out.now.text c.push_ascii-in-Apply.new.self c.write_arguments.new.out.text whole named
    (e ∙ ap (λ l. c.push_ascii-in-Apply.new.self ++ arguments_text (trees_of l)) c.deref-in-Apply.ensures.value))
    c.write_arguments.ensures.text
