-- How far an expression is from being taken apart, and what has come of the parts so far.
use Rattle.std.proofs.Common.{◌≡◌, ◌+◌, ◌*◌, drop}
use Rattle.swf_expr.specs.ExprNode.{trees_of, pairs_of, value_or_here, weight, weight_trees, weight_pairs}
use Rattle.swf_scope.specs.Variables.{are_known, pairs_known}
use Rattle.swf_scope.specs.VariablesView.{names_in}
use Rattle.swf_scope.proofs.variables.+known.Given as goal

abbrev pub decreases-all_known : goal.decreases-all_known
decreases-all_known l = 4 * weight l.expr.now

abbrev pub decreases-arguments_known : goal.decreases-arguments_known
decreases-arguments_known l = 4 * weight_trees (trees_of l.arguments.now) + 1

abbrev pub decreases-members_known : goal.decreases-members_known
decreases-members_known l = 4 * weight_pairs (pairs_of l.members.now) + 2

abbrev pub decreases-member_known : goal.decreases-member_known
decreases-member_known l = 4 * (weight l.member.now.key + weight (value_or_here l.member.now.key l.member.now.value)) + 1

abbrev pub invariant-arguments_known-loop-argument : goal.invariant-arguments_known-loop-argument
invariant-arguments_known-loop-argument l = are_known (names_in l.variables) (trees_of (drop l.argument-index l.arguments)) ≡ are_known (names_in l.variables) (trees_of l.arguments)

abbrev pub invariant-members_known-loop-member : goal.invariant-members_known-loop-member
invariant-members_known-loop-member l = pairs_known (names_in l.variables) (pairs_of (drop l.member-index l.members)) ≡ pairs_known (names_in l.variables) (pairs_of l.members)
