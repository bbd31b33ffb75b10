use Rattle.std.proofs.Common.{◌≡◌, ◌++◌, drop}
use Rattle.swf_scope.proofs.spot.push_place.Given as goal

abbrev pub invariant-loop-part : goal.invariant-loop-part
invariant-loop-part l = l.parts.items ++ drop l.part-index l.part-items ≡ l.fn.parts.items ++ l.fn.place
