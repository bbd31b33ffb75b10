use Rattle.std.proofs.Common.{◌≡◌, ◌++◌, ◌∷◌, ◌+◌, drop, nat_lt, false}
use Rattle.swf_value.specs.Node.{items_of, members_of, weight, weight_items, weight_members}
use Rattle.swf_value.specs.Value.{AreItems, AreMembers}
use Rattle.swf_value.specs.Written.{written_items, written_members, Extends}
use Rattle.swf_value.proofs.write.+write.Given as goal

abbrev pub decreases-write_value : goal.decreases-write_value
decreases-write_value l = weight l.value.now

abbrev pub decreases-write_list : goal.decreases-write_list
decreases-write_list l = weight_items (items_of l.items.now) + 1

abbrev pub decreases-write_object : goal.decreases-write_object
decreases-write_object l = weight_members (members_of l.members.now) + 1

abbrev pub invariant-write_list-loop-index : goal.invariant-write_list-loop-index
invariant-write_list-loop-index l =
    (l.out.items ++ written_items (nat_lt 0 l.index) (items_of (drop l.index l.items)) ≡ l.fn.out.items ++ 91 ∷ written_items false (items_of l.items))
    × (AreItems (items_of (drop l.index l.items)) → AreItems (items_of l.items))
    × Extends l.fn.out.items l.out.items

abbrev pub invariant-write_object-loop-index : goal.invariant-write_object-loop-index
invariant-write_object-loop-index l =
    (l.out.items ++ written_members (nat_lt 0 l.index) (members_of (drop l.index l.members)) ≡ l.fn.out.items ++ 123 ∷ written_members false (members_of l.members))
    × (AreMembers (members_of (drop l.index l.members)) → AreMembers (members_of l.members))
    × Extends l.fn.out.items l.out.items
