-- How far the tasks are from being taken apart, and what has been found of them so far.
use Rattle.std.proofs.Common.{◌≡◌, ◌+◌, ◌*◌, ◌++◌, drop}
use Rattle.swf_document.specs.Task.{weight_tasks, weight_task, weight_handler}
use Rattle.swf_document.specs.TaskNode.{task_of, tasks_of, handler_of}
use Rattle.swf_validate.specs.Calls.{called_in_tasks}
use Rattle.swf_scope.specs.NamesView.{places_in}
use Rattle.swf_validate.proofs.calls.+called.Given as goal

abbrev pub decreases-called_in : goal.decreases-called_in
decreases-called_in l = 8 * weight_task (task_of l.given.now) + 5

abbrev pub decreases-called_in_tasks : goal.decreases-called_in_tasks
decreases-called_in_tasks l = 8 * weight_tasks l.given.now + 7

abbrev pub decreases-called_in_named : goal.decreases-called_in_named
decreases-called_in_named l = 8 * weight_tasks (tasks_of l.given.now) + 6

abbrev pub decreases-called_in_try : goal.decreases-called_in_try
decreases-called_in_try l = 8 * (weight_tasks l.given.now.tasks + weight_handler (handler_of l.given.now.handler)) + 8

abbrev pub invariant-called_in_named-loop-one : goal.invariant-called_in_named-loop-one
invariant-called_in_named-loop-one l =
    l.out.items ++ called_in_tasks (places_in l.functions) (tasks_of (drop l.one-index l.given)) ≡ l.fn.out.items ++ called_in_tasks (places_in l.functions) (tasks_of l.given)
