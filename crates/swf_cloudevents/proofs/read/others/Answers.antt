use Rattle.std.proofs.Common.{arith}
use Rattle.std.proofs.lemmas.Grind.{common_steps}
use Rattle.swf_cloudevents.proofs.Others.{joined_push, joined_none, ascending_others}
use Rattle.swf_cloudevents.proofs.read.others.Goals as goal

pub loop-member-preserved : goal.loop-member-preserved
loop-member-preserved c = grind (arith, common_steps, joined_push)

pub of-requires : goal.of-requires
of-requires c = grind (arith, common_steps, joined_none, ascending_others)

pub returns : goal.returns
returns c = grind (arith, common_steps, joined_none)
