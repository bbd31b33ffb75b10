use Rattle.std.proofs.Common.{◌≡◌, ◌+◌, ◌≤◌, ◌++◌, drop}
use Rattle.swf_value.specs.Node.{items_of, members_of, weight, weight_items, weight_members}
use Rattle.swf_shapes.specs.Faults.{item_faults, member_faults}
use Rattle.swf_shapes.proofs.faults.+faults.Given as goal

abbrev pub decreases-push_faults : goal.decreases-push_faults
decreases-push_faults l = weight l.value.now

abbrev pub decreases-push_item_faults : goal.decreases-push_item_faults
decreases-push_item_faults l = weight_items (items_of l.items.now) + 1

abbrev pub decreases-push_member_faults : goal.decreases-push_member_faults
decreases-push_member_faults l = weight_members (members_of l.members.now) + 1

-- the faults so far and those of what is left are all, and what is left weighs no more
abbrev pub invariant-push_item_faults-loop-index : goal.invariant-push_item_faults-loop-index
invariant-push_item_faults-loop-index l = record {
  faults : l.fn.faults ++ item_faults l.inside l.shape l.place 0 (items_of l.items) ≡ l.faults ++ item_faults l.inside l.shape l.place l.index (items_of (drop l.index l.items));
  weigh : weight_items (items_of (drop l.index l.items)) ≤ weight_items (items_of l.items);
}

abbrev pub invariant-push_member_faults-loop-member : goal.invariant-push_member_faults-loop-member
invariant-push_member_faults-loop-member l = record {
  faults : l.fn.faults ++ member_faults l.layout l.place (members_of l.members) ≡ l.faults ++ member_faults l.layout l.place (members_of (drop l.member-index l.members));
  weigh : weight_members (members_of (drop l.member-index l.members)) ≤ weight_members (members_of l.members);
}
