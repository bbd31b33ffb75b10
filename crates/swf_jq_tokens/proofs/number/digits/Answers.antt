use Rattle.std.proofs.Common.{◌∙◌, ◌^◌, ◌-◌, arith}
use Rattle.std.proofs.lemmas.Grind.{common_steps}
use Rattle.swf_jq_tokens.proofs.Decimals.{digit_is, digits_more, held}
use Rattle.swf_jq_tokens.proofs.number.digits.Goals as goal

pub loop-c-preserved : goal.loop-c-preserved
loop-c-preserved c = record {
  value = held (2 ^ 64 - 1) c.loop-c.value _ _ c.from.result _ _ _ c.loop-c.invariant.value c.saturating_mul.ensures c.saturating_add-value.ensures (c.from.ensures ∙ c.in-Some.ensures.value.1) (digits_more c.args.first c.loop-c.c-index c.c-item.result c.args.tail.now c.loop-c-test.true c.c-item.is);
  count = omega arith;
  rest = grind (arith, common_steps, digit_is c.c-item.result c.in-Some.ensures.value.0);
}
