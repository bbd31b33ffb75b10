use Rattle.std.proofs.Common.{◌≡◌, take}
use Rattle.swf_evaluation.specs.Builtins.{decimal_value}
use Rattle.swf_jq_builtins.specs.Caps.{capped}
use Rattle.swf_jq_builtins.proofs.numbers.decimal_value.Given as goal

abbrev pub invariant-loop-character : goal.invariant-loop-character
invariant-loop-character l = l.value ≡ capped (decimal_value (take l.character-index l.characters))
