use Rattle.std.proofs.Common.{ap, ◌∙◌, arith}
use Rattle.swf_scheduler.specs.declared.rule.Hand.{Hand}
use Rattle.swf_scheduler.proofs.Steps.{takes, totals}
use Rattle.swf_scheduler.proofs.Closings.{draining, drained}
use Rattle.swf_scheduler.proofs.closing.drain.Goals as goal

pub loop-init : goal.loop-init
loop-init g c = (c.requires.channel, draining _ _ c.requires.empty, c.requires.room)

pub try_recv_as-requires-clause-rule : goal.try_recv_as-requires-clause-rule
try_recv_as-requires-clause-rule g c =
    let all = ap (λ (v : Hand g.row.W.Denot). v.parts) c.loop.invariant.1.step ∙ c.requires.whole.0 in
    (takes _ _ (omega arith), λ items views k at all may. totals _ _ all may items views k at)

pub returns-in-Err : goal.returns-in-Err
returns-in-Err g c = drained _ _ _ c.loop.invariant.1 c.requires.whole.0 c.requires.whole.1 c.in-Err.ensures.rule.1
