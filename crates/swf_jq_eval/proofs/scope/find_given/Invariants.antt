use Rattle.std.proofs.Common.{◌≡◌, ◌-◌, take}
use Rattle.swf_evaluation.specs.Outputs.{named}
use Rattle.swf_evaluation.specs.Scopes.{scope_from}
use Rattle.swf_jq_eval.proofs.scope.find_given.Given as goal

abbrev pub invariant-loop-i : goal.invariant-loop-i
invariant-loop-i l = named l.name (scope_from l.variables) ≡ named l.name (scope_from (take (l.len - l.i) l.variables))
