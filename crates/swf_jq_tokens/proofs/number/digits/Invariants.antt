use Rattle.std.proofs.Common.{◌≡◌, ◌+◌, ◌-◌, ◌^◌, ◌∷◌, min, take, drop}
use Rattle.std.specs.List.{prefix_len}
use Rattle.std.specs.Str.Parse.{digits_value}
use Rattle.swf_jq_tokens.specs.Words.{is_digit}
use Rattle.swf_jq_tokens.proofs.number.digits.Given as goal

abbrev pub invariant-loop-c : goal.invariant-loop-c
invariant-loop-c l = record {
  value : l.value ≡ min (digits_value 10 (l.fn.first ∷ take l.c-index l.tail)) (2 ^ 64 - 1);
  count : l.count ≡ l.c-index;
  rest : l.count + prefix_len is_digit (drop l.c-index l.tail) ≡ prefix_len is_digit l.tail;
}
