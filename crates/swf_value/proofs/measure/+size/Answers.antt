use Rattle.std.proofs.Common.{arith}
use Rattle.swf_value.proofs.Weights.{weight_item, weight_member}
use Rattle.swf_value.proofs.measure.+size.Goals as goal

pub add_items-add_size-sum-requires : goal.add_items-add_size-sum-requires
add_items-add_size-sum-requires t c =
    (omega (arith, weight_item c.args.items.now c.loop-item.item-index c.item-item.result c.loop-item-test.true c.item-item.is), omega arith)

pub add_members-add_size-sum-requires : goal.add_members-add_size-sum-requires
add_members-add_size-sum-requires t c =
    (omega (arith, weight_member c.args.members.now c.loop-member.member-index c.member-item.result c.loop-member-test.true c.member-item.is), omega arith)
