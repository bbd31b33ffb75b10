use Rattle.std.proofs.Common.{◌≡◌, ◌+◌, ◌≤◌, drop, min}
use Rattle.swf_value.specs.Node.{items_of, members_of}
use Rattle.swf_value.specs.Weight.{weight, weight_items, weight_members}
use Rattle.swf_value.specs.Size.{size_items, size_members}
use Rattle.swf_value.proofs.measure.+size.Given as goal

abbrev pub decreases-add_size : goal.decreases-add_size
decreases-add_size l = weight l.value.now

abbrev pub decreases-add_items : goal.decreases-add_items
decreases-add_items l = weight_items (items_of l.items.now) + 1

abbrev pub decreases-add_members : goal.decreases-add_members
decreases-add_members l = weight_members (members_of l.members.now) + 1

abbrev pub invariant-add_items-loop-item : goal.invariant-add_items-loop-item
invariant-add_items-loop-item l = (l.sum ≤ l.most) × (min (l.sum + size_items (items_of (drop l.item-index l.items))) l.most ≡ min (l.fn.sum + size_items (items_of l.items)) l.most)

abbrev pub invariant-add_members-loop-member : goal.invariant-add_members-loop-member
invariant-add_members-loop-member l = (l.sum ≤ l.most) × (min (l.sum + size_members (members_of (drop l.member-index l.members))) l.most ≡ min (l.fn.sum + size_members (members_of l.members)) l.most)
