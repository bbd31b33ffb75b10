use Rattle.std.proofs.Common.{◌∙◌, sym}
use Rattle.swf_instances.specs.Held.{instances_in}
use Rattle.swf_instances.proofs.QueuedLemmas.{queued_left}
use Rattle.swf_instances.proofs.next.first_enabled.Goals as goal

pub loop-number-preserved : goal.loop-number-preserved
loop-number-preserved c = record {
  queue = λ h. queued_left c.args.now (instances_in c.args.machines.now.entries) c.loop-number.queue.numbers c.leave.new.self.numbers c.in-Some.number
      (sym c.in-Some.ensures.first) c.leave.ensures.numbers (sym c.is_enabled.ensures ∙ c.if-is_enabled.false) (c.loop-number.invariant.queue h);
  count = c.leave.ensures.count ∙ c.loop-number.invariant.count;
  room = c.leave.ensures.room ∙ c.loop-number.invariant.room;
}
