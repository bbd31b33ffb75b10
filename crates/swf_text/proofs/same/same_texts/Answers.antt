use Rattle.std.proofs.Common.{sym, ◌∙◌}
use Rattle.swf_text.proofs.SameLemmas.{same_decides}
use Rattle.swf_text.proofs.same.same_texts.Goals as goal

pub returns : goal.returns
returns c = same_decides c.is.result c.args.a.now c.args.b.now (λ t. c.is.ensures.0 t ∙ c.as_str.ensures.chars) (λ e. c.is.ensures.1 (e ∙ sym c.as_str.ensures.chars))
