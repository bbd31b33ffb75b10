-- How far the tasks are from being taken apart, and how many there were so far.
use Rattle.std.proofs.Common.{◌≡◌, ◌+◌, ◌*◌, ◌≤◌, min, drop}
use Rattle.swf_document.specs.Task.{weight_tasks, weight_task, weight_handler}
use Rattle.swf_document.specs.TaskNode.{task_of, tasks_of, handler_of}
use Rattle.swf_validate.specs.Count.{count_tasks}
use Rattle.swf_validate.proofs.count.+count.Given as goal

abbrev pub decreases-add_task : goal.decreases-add_task
decreases-add_task l = 8 * weight_task (task_of l.given.now) + 5

abbrev pub decreases-add_tasks : goal.decreases-add_tasks
decreases-add_tasks l = 8 * weight_tasks l.given.now + 7

abbrev pub decreases-add_named : goal.decreases-add_named
decreases-add_named l = 8 * weight_tasks (tasks_of l.given.now) + 6

abbrev pub decreases-add_try : goal.decreases-add_try
decreases-add_try l = 8 * (weight_tasks l.given.now.tasks + weight_handler (handler_of l.given.now.handler)) + 8

abbrev pub invariant-add_named-loop-one : goal.invariant-add_named-loop-one
invariant-add_named-loop-one l = (l.sum ≤ l.most) × (min (l.sum + count_tasks (tasks_of (drop l.one-index l.given))) l.most ≡ min (l.fn.sum + count_tasks (tasks_of l.given)) l.most)
