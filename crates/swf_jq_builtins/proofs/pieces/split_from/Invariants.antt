use Rattle.std.proofs.Common.{◌≡◌, ◌++◌, [], drop}
use Rattle.swf_evaluation.specs.Builtins.{split_from}
use Rattle.swf_jq_builtins.proofs.pieces.split_from.Given as goal

abbrev pub invariant-loop-i : goal.invariant-loop-i
invariant-loop-i l = l.parts.items ++ split_from l.separator l.skip l.part (drop l.i l.characters) ≡ split_from l.separator 0 [] l.characters
