use Rattle.std.proofs.Common.{sym, ◌∙◌}
use Rattle.swf_text.proofs.SameLemmas.{same_decides, chars_ascii}
use Rattle.swf_text.proofs.same.is_word.Goals as goal

pub returns : goal.returns
returns c = let a = chars_ascii c.args.word.now c.requires in same_decides c.is.result c.args.text.now c.args.word.now (λ t. c.is.ensures.0 t ∙ a) (λ e. c.is.ensures.1 (e ∙ sym a))
