use Rattle.std.proofs.Common.{◌≡◌, ◌+◌, ◌*◌, ◌≤◌, [], length}
use Rattle.swf_jq_tokens.specs.Lexer.{lex}
use Rattle.swf_jq_tokens.proofs.TokenSteps.{after}
use Rattle.swf_jq_tokens.proofs.lexer.lex.Given as goal

abbrev pub invariant-loop-first : goal.invariant-loop-first
invariant-loop-first l = record {
  same : after l.tokens.items (lex l.nest l.at l.rest) ≡ lex [] 0 l.text;
  room : l.at + 4 * length l.rest ≤ 4 * length l.text;
}

abbrev pub decreases-loop-first : goal.decreases-loop-first
decreases-loop-first l = length l.rest
