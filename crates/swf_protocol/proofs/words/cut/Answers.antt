use Rattle.swf_protocol.proofs.WordLemmas.{cut_words}
use Rattle.swf_protocol.proofs.Unspaced.{cut_word}
use Rattle.swf_protocol.proofs.words.cut.Goals as goal

pub returns-clause-words : goal.returns-clause-words
returns-clause-words c = cut_words c.args.text.now c.split_once.result c.split_once.ensures.cases

pub returns-clause-word : goal.returns-clause-word
returns-clause-word c = cut_word c.args.text.now c.split_once.result c.utf8.text c.split_once.ensures.cases
