use Rattle.std.proofs.Common.{◌≡◌, drop}
use Rattle.swf_words.specs.Words.{texts, words_of}
use Rattle.swf_words.specs.Arguments.{meant}
use Rattle.swf_words.proofs.arguments.read_words.Given as goal

-- what is meant by all words is meant behind those that were taken
abbrev pub invariant-loop-word : goal.invariant-loop-word
invariant-loop-word l = words_of (texts l.words) ≡ meant l.progress (drop l.word-index (texts l.words))
