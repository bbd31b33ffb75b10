use Rattle.std.proofs.Common.{◌≡◌, drop}
use Rattle.swf_jq_tokens.specs.Words.{keyword_in}
use Rattle.swf_jq_tokens.proofs.words.keyword_in.Given as goal

abbrev pub invariant-loop-keyword : goal.invariant-loop-keyword
invariant-loop-keyword l = keyword_in (drop l.keyword-index l.all) l.word ≡ keyword_in l.all l.word
