use Rattle.std.proofs.Common.{◌∙◌, ap}
use Rattle.swf_meaning.specs.World.{Instance}
use Rattle.swf_strands.specs.Alarm.{alarm_of}
use Rattle.swf_tasks.proofs.machine.Machine.alarm.Goals as goal

pub returns : goal.returns
returns c = c.self.invariant.1 ∙ ap (λ (i : Instance). alarm_of i.node) c.self.view_is
