use Rattle.std.proofs.Common.{◌≡◌, ◌++◌, drop}
use Rattle.swf_scope.specs.Spots.{place_at}
use Rattle.swf_scope.specs.PartFaults.{filters_faults}
use Rattle.swf_scope.specs.VariablesView.{names_in}
use Rattle.swf_scope.proofs.parts.filters.Given as goal

abbrev pub invariant-loop-position : goal.invariant-loop-position
invariant-loop-position l =
    l.out ++ filters_faults (names_in l.variables) l.mode (place_at l.at) l.position (drop l.position l.given) ≡ l.fn.out ++ filters_faults (names_in l.variables) l.mode (place_at l.at) 0 l.given
