-- How far the first of two expressions is from being taken apart, and how far the two agree.
use Rattle.std.proofs.Common.{◌≡◌, ◌↔◌, ◌+◌, ◌*◌, ℕ, Option, Some, None, take, drop}
use Rattle.swf_expr.specs.Expr.{Tree}
use Rattle.swf_expr.specs.ExprNode.{node_tree, pairs_of, trees_of, value_or_here, weight, weight_trees, weight_pairs}
use Rattle.swf_same.proofs.expr.+same.Given as goal

abbrev weight_option : Option Tree → ℕ
weight_option None = 0
weight_option (Some e) = weight e

abbrev pub decreases-same_tree : goal.decreases-same_tree
decreases-same_tree l = 8 * weight l.a.now + 1

abbrev pub decreases-same_node : goal.decreases-same_node
decreases-same_node l = 8 * weight (node_tree l.a.now)

abbrev pub decreases-same_option : goal.decreases-same_option
decreases-same_option l = 8 * weight_option l.a.now + 2

abbrev pub decreases-same_trees : goal.decreases-same_trees
decreases-same_trees l = 8 * weight_trees (trees_of l.a.now) + 8

abbrev pub decreases-same_members : goal.decreases-same_members
decreases-same_members l = 8 * weight_pairs (pairs_of l.a.now) + 8

abbrev pub decreases-same_member : goal.decreases-same_member
decreases-same_member l = 8 * (weight l.a.now.key + weight (value_or_here l.a.now.key l.a.now.value)) + 4

abbrev pub decreases-is_member_here : goal.decreases-is_member_here
decreases-is_member_here l = 8 * weight l.key.now + 2

abbrev pub invariant-same_trees-loop-i : goal.invariant-same_trees-loop-i
invariant-same_trees-loop-i l = take l.i l.a ≡ take l.i l.b

abbrev pub invariant-same_members-loop-i : goal.invariant-same_members-loop-i
invariant-same_members-loop-i l = (pairs_of (drop l.i l.a) ≡ pairs_of (drop l.i l.b)) ↔ (pairs_of l.a ≡ pairs_of l.b)
