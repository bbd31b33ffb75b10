use Rattle.std.proofs.Common.{arith}
use Rattle.std.proofs.lemmas.List.Sums.{prefix_len-le-length}
use Rattle.swf_expr.specs.Name.{goes_on_name}
use Rattle.swf_jq_tokens.proofs.words.push_rest.Goals as goal

pub returns-after-loop-c-clause-within : goal.returns-after-loop-c-clause-within
returns-after-loop-c-clause-within c = omega (arith, c.loop-c.invariant.2, prefix_len-le-length goes_on_name c.args.tail.now)

pub returns-then-not-matches-clause-within : goal.returns-then-not-matches-clause-within
returns-then-not-matches-clause-within c = omega (arith, c.loop-c.invariant.2, prefix_len-le-length goes_on_name c.args.tail.now)
