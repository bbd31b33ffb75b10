use Rattle.std.proofs.Common.{arith}
use Rattle.swf_document.proofs.Weights.{weight_named}
use Rattle.swf_validate.proofs.count.+count.Goals as goal

pub add_named-add_task-sum-requires : goal.add_named-add_task-sum-requires
add_named-add_task-sum-requires t c =
    (omega (arith, weight_named c.args.given.now c.loop-one.one-index c.one-item.result c.loop-one-test.true c.one-item.is), omega arith)
