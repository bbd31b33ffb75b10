use Rattle.std.proofs.Common.{◌∙◌, sym, refl}
use Rattle.swf_words.proofs.WordLemmas.{takes_option}
use Rattle.swf_words.proofs.arguments.take_any.Goals as goal

pub returns-in-Some : goal.returns-in-Some
returns-in-Some c = takes_option c.args.progress.now _ c.in-Some.setting c.args.word.now c.requires (sym c.option_named.ensures ∙ c.in-Some.is) refl
