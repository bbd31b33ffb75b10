use Rattle.std.proofs.Common.{◌≡◌, ◌+◌, ◌++◌, take, drop}
use Rattle.swf_jq_tokens.specs.Words.{word_length}
use Rattle.swf_jq_tokens.proofs.words.push_rest.Given as goal

abbrev pub invariant-loop-c : goal.invariant-loop-c
invariant-loop-c l =
    (l.length ≡ l.c-index) × (l.word ≡ l.fn.word ++ take l.c-index l.tail) × (l.length + word_length (drop l.c-index l.tail) ≡ word_length l.tail)
