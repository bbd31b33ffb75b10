use Rattle.swf_strands.proofs.AlarmLemmas.{alarm-way}
use Rattle.swf_strands.proofs.ForkLemmas.{at-held, no-way}
use Rattle.swf_strands.proofs.TreeLemmas.{root-held}
use Rattle.swf_strands.proofs.alarm.alarm_at.Goals as goal

pub strand_at-requires : goal.strand_at-requires
strand_at-requires c = root-held c.args.forest.now c.root.result c.root.ensures.root c.root.ensures.distinct c.requires.grown

pub unreachable-requires : goal.unreachable-requires
unreachable-requires c = no-way c.args.forest.now c.root.result c.args.branches.now c.root.ensures.root c.requires.grown c.in_default.ensures.none c.requires.there

pub alarm_in-requires : goal.alarm_in-requires
alarm_in-requires c = at-held c.args.forest.now c.root.result c.in-Some.strand c.args.branches.now c.root.ensures.root c.root.ensures.distinct c.requires.grown c.in-Some.ensures.found

pub returns : goal.returns
returns c = alarm-way c.args.forest.now c.root.result c.in-Some.strand c.args.branches.now c.alarm_in.result c.root.ensures.root c.requires.grown c.in-Some.ensures.found c.alarm_in.ensures
