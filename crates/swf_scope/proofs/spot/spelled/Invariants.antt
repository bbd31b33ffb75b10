use Rattle.std.proofs.Common.{◌≡◌, ◌++◌, drop}
use Rattle.swf_scope.proofs.spot.spelled.Given as goal

abbrev pub invariant-loop-byte : goal.invariant-loop-byte
invariant-loop-byte l = l.text ++ drop l.byte-index l.byte-items ≡ l.word
