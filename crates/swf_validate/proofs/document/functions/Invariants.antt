use Rattle.std.proofs.Common.{◌≡◌, ◌++◌, drop}
use Rattle.swf_document.specs.TaskNode.{tasks_of}
use Rattle.swf_validate.specs.Calls.{calls_of}
use Rattle.swf_validate.specs.DocumentFaults.{functions_faults}
use Rattle.swf_scope.specs.ScopeView.{scope_of}
use Rattle.swf_validate.proofs.document.functions.Given as goal

abbrev pub invariant-loop-function : goal.invariant-loop-function
invariant-loop-function l =
    let graph = calls_of (scope_of l.scope).known.functions (tasks_of l.given) in
    l.out ++ functions_faults (scope_of l.scope) graph l.function (tasks_of (drop l.function l.given)) ≡ l.fn.out ++ functions_faults (scope_of l.scope) graph 0 (tasks_of l.given)
