use Rattle.std.proofs.Common.{◌∙◌, ap, chars}
use Rattle.std.proofs.lemmas.Result.{IfOk-weaker}
use Rattle.swf_connect.proofs.content.base64_text.Goals as goal

pub returns : goal.returns
returns c = IfOk-weaker c.from_string.result _ _ (λ t e. e ∙ ap chars c.in_ok-text.ensures.text) c.from_string.ensures
