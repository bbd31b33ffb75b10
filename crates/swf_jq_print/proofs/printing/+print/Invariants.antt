use Rattle.std.proofs.Common.{◌≡◌, ◌+◌, ◌*◌, ◌++◌, ◌∷◌, drop, nat_lt, false}
use Rattle.swf_expr.specs.ExprNode.{trees_of, pairs_of, value_or_here, weight, weight_trees, weight_pairs}
use Rattle.swf_jq_print.specs.Print.{print_arguments, print_members}
use Rattle.swf_jq_print.specs.Printed.{AreArguments, AreMembers}
use Rattle.swf_jq_print.proofs.printing.+print.Given as goal

abbrev pub decreases-write : goal.decreases-write
decreases-write l = 4 * weight l.expr.now

abbrev pub decreases-write_between : goal.decreases-write_between
decreases-write_between l = 4 * weight l.expr.now + 1

abbrev pub decreases-write_operand : goal.decreases-write_operand
decreases-write_operand l = 4 * weight l.expr.now + 2

abbrev pub decreases-write_both : goal.decreases-write_both
decreases-write_both l = 4 * (weight l.left.now + weight l.right.now) + 3

abbrev pub decreases-write_object : goal.decreases-write_object
decreases-write_object l = 4 * weight_pairs (pairs_of l.members.now) + 4

abbrev pub decreases-write_member : goal.decreases-write_member
decreases-write_member l = 4 * (weight l.member.now.key + weight (value_or_here l.member.now.key l.member.now.value)) + 3

abbrev pub decreases-write_arguments : goal.decreases-write_arguments
decreases-write_arguments l = 4 * weight_trees (trees_of l.arguments.now) + 1

abbrev pub invariant-write_object-loop-index : goal.invariant-write_object-loop-index
invariant-write_object-loop-index l = record {
  text : l.out.text ++ print_members (nat_lt 0 l.index) (pairs_of (drop l.index l.members)) ≡ l.fn.out.text ++ 123 ∷ print_members false (pairs_of l.members);
  kept : AreMembers (pairs_of (drop l.index l.members)) → AreMembers (pairs_of l.members);
}

abbrev pub invariant-write_arguments-loop-index : goal.invariant-write_arguments-loop-index
invariant-write_arguments-loop-index l = record {
  text : l.out.text ++ print_arguments (nat_lt 0 l.index) (trees_of (drop l.index l.arguments)) ≡ l.fn.out.text ++ 40 ∷ print_arguments false (trees_of l.arguments);
  kept : AreArguments (trees_of (drop l.index l.arguments)) → AreArguments (trees_of l.arguments);
}
