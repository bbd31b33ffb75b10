use Rattle.std.proofs.Common.{◌∙◌, ap}
use Rattle.swf_strands.specs.Alarm.{until_in_top}
use Rattle.swf_strands.proofs.AlarmLemmas.{own-is}
use Rattle.swf_strands.proofs.alarm.own_until.Goals as goal

pub returns : goal.returns
returns c = λ b f. c.until_of.ensures ∙ ap until_in_top c.get.ensures ∙ own-is b c.stand_of.result.now (c.stand_of.ensures b f)
