-- How far the tasks are from being taken apart, and what has been told of them so far.
use Rattle.std.proofs.Common.{◌≡◌, ◌+◌, ◌*◌, ◌++◌, drop}
use Rattle.swf_document.specs.Task.{weight_tasks, weight_task, weight_kind, weight_handler}
use Rattle.swf_document.specs.TaskNode.{kind_of, task_of, tasks_of, handler_of}
use Rattle.swf_scope.specs.NamesView.{places_in}
use Rattle.swf_scope.specs.ScopeView.{scope_of}
use Rattle.swf_validate.specs.TaskFaults.{named_faults}
use Rattle.swf_validate.proofs.tasks.+tasks.Given as goal

abbrev pub decreases-list : goal.decreases-list
decreases-list l = 8 * weight_tasks l.given.now + 7

abbrev pub decreases-named : goal.decreases-named
decreases-named l = 8 * weight_tasks (tasks_of l.given.now) + 6

abbrev pub decreases-task : goal.decreases-task
decreases-task l = 8 * weight_task (task_of l.given.now) + 5

abbrev pub decreases-before_export : goal.decreases-before_export
decreases-before_export l = 8 * weight_kind (kind_of l.given.now) + 4

abbrev pub decreases-before_if : goal.decreases-before_if
decreases-before_if l = 8 * weight_kind (kind_of l.given.now) + 4

abbrev pub decreases-behind_then : goal.decreases-behind_then
decreases-behind_then l = 8 * weight_kind (kind_of l.given.now) + 4

abbrev pub decreases-round : goal.decreases-round
decreases-round l = 8 * weight_tasks l.given.now.tasks + 8

abbrev pub decreases-catch : goal.decreases-catch
decreases-catch l = 8 * weight_handler (handler_of l.given.now.handler) + 8

abbrev pub decreases-fork : goal.decreases-fork
decreases-fork l = 8 * weight_tasks l.given.now.branches + 8

abbrev pub invariant-named-loop-position : goal.invariant-named-loop-position
invariant-named-loop-position l =
    l.out ++ named_faults (scope_of l.scope) (places_in l.places) l.position (tasks_of (drop l.position l.given)) ≡ l.fn.out ++ named_faults (scope_of l.scope) (places_in l.places) 0 (tasks_of l.given)
