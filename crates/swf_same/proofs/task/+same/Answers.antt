use Rattle.std.proofs.Common.{◌≡◌, arith, length}
use Rattle.swf_document.proofs.Weights.{weight_named}
use Rattle.swf_same.proofs.TaskLists.{tasks_long}
use Rattle.swf_same.proofs.task.+same.Goals as goal

pub same_named-returns-then-a-b : goal.same_named-returns-then-a-b
same_named-returns-then-a-b t c =
    (λ p. absurd (cc p), λ e. let n : length c.args.a.now ≡ length c.args.b.now = tasks_long _ _ e in absurd (omega arith))

pub same_named-same_task-requires : goal.same_named-same_task-requires
same_named-same_task-requires t c =
    (omega (arith, weight_named c.args.a.now c.loop-i.i c.index-a-i.result c.loop-i-test.true c.index-a-i.is), tt)
