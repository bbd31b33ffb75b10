use Rattle.swf_text.proofs.SameLemmas.{chars_ascii}
use Rattle.swf_text.proofs.words.word.Goals as goal

pub returns : goal.returns
returns c = rw (chars_ascii c.args.word.now c.requires) at c.copy_of.ensures
