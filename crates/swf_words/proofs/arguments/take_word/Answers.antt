use Rattle.std.proofs.Common.{refl}
use Rattle.swf_words.proofs.WordLemmas.{takes_ended, takes_awaited}
use Rattle.swf_words.proofs.arguments.take_word.Goals as goal

pub returns-in-Value : goal.returns-in-Value
returns-in-Value c = takes_awaited c.take_value.result c.args.progress.now _ c.take_value.new.progress c.in-Value.setting c.args.word.now c.in-Value.is refl c.take_value.ensures

pub returns-in-Other : goal.returns-in-Other
returns-in-Other c = takes_ended c.take_other.result c.args.progress.now c.take_other.new.progress c.args.word.now c.in-Other.is c.take_other.ensures
