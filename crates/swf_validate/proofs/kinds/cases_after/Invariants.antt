use Rattle.std.proofs.Common.{◌≡◌, ◌++◌, drop}
use Rattle.swf_scope.specs.NamesView.{places_in}
use Rattle.swf_scope.specs.ScopeView.{scope_of}
use Rattle.swf_scope.specs.Spots.{place_at}
use Rattle.swf_validate.specs.TaskFaults.{cases_faults}
use Rattle.swf_validate.proofs.kinds.cases_after.Given as goal

abbrev pub invariant-loop-position : goal.invariant-loop-position
invariant-loop-position l =
    l.out ++ cases_faults (scope_of l.scope) (places_in l.seen) (place_at l.at) l.position (drop l.position l.given) ≡ l.fn.out ++ cases_faults (scope_of l.scope) (places_in l.fn.seen) (place_at l.at) 0 l.given
