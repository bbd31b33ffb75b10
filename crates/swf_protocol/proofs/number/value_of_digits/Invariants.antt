use Rattle.std.proofs.Common.{◌≡◌, ◌<◌, ◌^◌, drop, fold}
use Rattle.swf_protocol.specs.Number.{value_of_digits}
use Rattle.swf_protocol.proofs.NumberLemmas.{next_digit}
use Rattle.swf_protocol.proofs.number.value_of_digits.Given as goal

abbrev pub invariant-loop-byte : goal.invariant-loop-byte
invariant-loop-byte l = record {
  small : l.value < 2 ^ 64;
  whole : value_of_digits l.bytes ≡ fold next_digit l.value (drop l.byte-index l.bytes);
}
