use Rattle.std.proofs.Common.{◌∙◌, sym, arith}
use Rattle.swf_value.proofs.Rests.{items_short, members_short}
use Rattle.swf_value.proofs.Weights.{weight_item, weight_member}
use Rattle.swf_value.proofs.order.+compare.Goals as goal

pub compare_items-compare-requires : goal.compare_items-compare-requires
compare_items-compare-requires t c =
    (omega (arith, weight_item c.args.a.now c.loop-i.i c.index-a-i.result c.loop-i-test.true c.index-a-i.is), tt)

pub compare_members-compare-requires : goal.compare_members-compare-requires
compare_members-compare-requires t c =
    (omega (arith, weight_member c.args.a.now c.loop-i.i c.index-a-i.result c.loop-i-test.true c.index-a-i.is), tt)

pub compare_items-returns-then-a-b : goal.compare_items-returns-then-a-b
compare_items-returns-then-a-b t c =
    sym (items_short c.args.a.now c.args.b.now c.loop-i.i (omega arith) (omega arith)) ∙ c.loop-i.invariant

pub compare_members-returns-then-a-b : goal.compare_members-returns-then-a-b
compare_members-returns-then-a-b t c =
    sym (members_short c.args.a.now c.args.b.now c.loop-i.i (omega arith) (omega arith)) ∙ c.loop-i.invariant
