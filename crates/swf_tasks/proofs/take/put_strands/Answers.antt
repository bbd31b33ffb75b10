use Rattle.std.proofs.Common.{subst}
use Rattle.swf_strands.specs.Strands.{root_node}
use Rattle.swf_strands.proofs.AlarmLemmas.{alarm-root}
use Rattle.swf_strands.proofs.TreeLemmas.{root-held}
use Rattle.swf_tasks.specs.Prepares.{fits}
use Rattle.swf_tasks.proofs.take.put_strands.Goals as goal

pub alarm_in-alarm-requires : goal.alarm_in-alarm-requires
alarm_in-alarm-requires c =
    root-held c.in-All.all c.root.result c.root.ensures.root c.root.ensures.distinct (subst (λ x. fits x c.args.strand.now (root_node c.args.forest.now.strands)) c.in-All.is c.requires.fits)

pub returns-in-All-clause-alarm : goal.returns-in-All-clause-alarm
returns-in-All-clause-alarm c =
    alarm-root c.in-All.all c.root.result c.alarm_in-alarm.result c.root.ensures.root (subst (λ x. fits x c.args.strand.now (root_node c.args.forest.now.strands)) c.in-All.is c.requires.fits) c.alarm_in-alarm.ensures
