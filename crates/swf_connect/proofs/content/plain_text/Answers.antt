use Rattle.std.proofs.Common.{◌∙◌, ap, chars}
use Rattle.std.proofs.lemmas.Result.{IfOk-weaker}
use Rattle.swf_connect.proofs.ContentLemmas.{utf8_text, other_text}
use Rattle.swf_connect.proofs.content.plain_text.Goals as goal

pub returns-in-Ok : goal.returns-in-Ok
returns-in-Ok c =
    IfOk-weaker c.copy_of.result _ _ (λ t e. e ∙ ap chars c.in-Ok.ensures.cases.0 ∙ utf8_text c.args.bytes.now c.in-Ok.ensures.cases.1) c.copy_of.ensures

pub returns-in-Err : goal.returns-in-Err
returns-in-Err c =
    IfOk-weaker c.base64_text.result _ _ (λ t e. e ∙ other_text c.args.bytes.now c.in-Err.ensures.cases.0) c.base64_text.ensures
