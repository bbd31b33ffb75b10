use Rattle.std.proofs.Common.{◌∙◌}
use Rattle.std.proofs.lemmas.Result.{IfOk-weaker}
use Rattle.std.proofs.lemmas.Str.{chars-IsAscii}
use Rattle.swf_connect.proofs.message.number.Goals as goal

pub returns : goal.returns
returns c = IfOk-weaker c.copy_of.result _ _ (λ t e. e ∙ chars-IsAscii c.format.result.now c.format.ensures.ascii ∙ c.format.ensures.text) c.copy_of.ensures
