use Rattle.std.proofs.Common.{◌∙◌, ap}
use Rattle.swf_connect.specs.Answers.{is_head}
use Rattle.swf_connect.proofs.AnswerLemmas.{ends_all}
use Rattle.swf_connect.proofs.answer.answer_from.Goals as goal

pub returns-clause-ends : goal.returns-clause-ends
returns-clause-ends g c =
    ends_all c.args.request.now (record { url = c.args.url.now; host = c.args.host.now }) c.in_ok-message.message c.is_head-head.result c.port_of.result
    c.exchange-exchanged.result c.reply_to.result (g.D.Dial.dial_faults c.args.dial.now) (g.D.Dial.dial_faults c.exchange-exchanged.new.dial)
    (g.D.Dial.talks c.args.dial.now) (g.D.Dial.talks c.exchange-exchanged.new.dial)
    (c.in_ok-message.ensures.message, c.is_head-head.ensures ∙ ap is_head c.method.ensures, c.port_of.ensures)
    c.exchange-exchanged.ensures.cause c.exchange-exchanged.ensures.talks c.reply_to.ensures.follows
