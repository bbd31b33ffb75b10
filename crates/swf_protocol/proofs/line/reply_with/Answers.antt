use Rattle.std.proofs.Common.{◌∙◌, sym, subst}
use Rattle.swf_protocol.specs.Spelled.{IsWord}
use Rattle.swf_protocol.proofs.Speaking.{answer_again}
use Rattle.swf_protocol.proofs.line.reply_with.Goals as goal

pub returns-clause-speakable : goal.returns-clause-speakable
returns-clause-speakable c =
    (subst IsWord (sym c.in_ok-activity.ensures) c.requires, answer_again c.in_ok-value.value c.in-Some.reply c.in_ok-value.ensures.said (sym c.in_ok-reply.ensures ∙ c.in-Some.is))
