use Rattle.std.proofs.Common.{◌≡◌, ◌+◌, ◌≤◌, drop}
use Rattle.swf_value.specs.Node.{items_of, members_of, weight, weight_items, weight_members}
use Rattle.swf_reader.specs.Parts.{are_constant, have_constants}
use Rattle.swf_reader.proofs.template.+constant.Given as goal

abbrev pub decreases-is_constant : goal.decreases-is_constant
decreases-is_constant l = weight l.value.now

abbrev pub decreases-are_constant : goal.decreases-are_constant
decreases-are_constant l = weight_items (items_of l.items.now) + 1

abbrev pub decreases-have_constants : goal.decreases-have_constants
decreases-have_constants l = weight_members (members_of l.members.now) + 1

-- the items that are left decide, and weigh no more than all
abbrev pub invariant-are_constant-loop-item : goal.invariant-are_constant-loop-item
invariant-are_constant-loop-item l = record {
  decide : are_constant (items_of l.items) ≡ are_constant (items_of (drop l.item-index l.items));
  weigh : weight_items (items_of (drop l.item-index l.items)) ≤ weight_items (items_of l.items);
}

abbrev pub invariant-have_constants-loop-member : goal.invariant-have_constants-loop-member
invariant-have_constants-loop-member l = record {
  decide : have_constants (members_of l.members) ≡ have_constants (members_of (drop l.member-index l.members));
  weigh : weight_members (members_of (drop l.member-index l.members)) ≤ weight_members (members_of l.members);
}
