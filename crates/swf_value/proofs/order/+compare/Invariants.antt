use Rattle.std.proofs.Common.{◌≡◌, ◌+◌, drop}
use Rattle.swf_value.specs.Node.{node_value, items_of, members_of, weight, weight_items, weight_members}
use Rattle.swf_value.specs.Order.{items_cmp, members_cmp}
use Rattle.swf_value.proofs.order.+compare.Given as goal

abbrev pub decreases-compare : goal.decreases-compare
decreases-compare l = weight l.a.now + 1

abbrev pub decreases-compare_nodes : goal.decreases-compare_nodes
decreases-compare_nodes l = weight (node_value l.a.now)

abbrev pub decreases-compare_items : goal.decreases-compare_items
decreases-compare_items l = weight_items (items_of l.a.now) + 2

abbrev pub decreases-compare_members : goal.decreases-compare_members
decreases-compare_members l = weight_members (members_of l.a.now) + 2

abbrev pub invariant-compare_items-loop-i : goal.invariant-compare_items-loop-i
invariant-compare_items-loop-i l = items_cmp (items_of (drop l.i l.a)) (items_of (drop l.i l.b)) ≡ items_cmp (items_of l.a) (items_of l.b)

abbrev pub invariant-compare_members-loop-i : goal.invariant-compare_members-loop-i
invariant-compare_members-loop-i l = members_cmp (members_of (drop l.i l.a)) (members_of (drop l.i l.b)) ≡ members_cmp (members_of l.a) (members_of l.b)
