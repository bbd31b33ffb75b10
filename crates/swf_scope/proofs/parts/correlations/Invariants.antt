use Rattle.std.proofs.Common.{◌≡◌, ◌++◌, drop}
use Rattle.swf_scope.specs.Spots.{place_at}
use Rattle.swf_scope.specs.PartFaults.{correlations_faults}
use Rattle.swf_scope.specs.VariablesView.{names_in}
use Rattle.swf_scope.proofs.parts.correlations.Given as goal

abbrev pub invariant-loop-one : goal.invariant-loop-one
invariant-loop-one l =
    l.out ++ correlations_faults (names_in l.variables) (place_at l.at) (drop l.one-index l.given) ≡ l.fn.out ++ correlations_faults (names_in l.variables) (place_at l.at) l.given
