-- How far the first of two lists of tasks is from being taken apart, and how far the two agree.
use Rattle.std.proofs.Common.{◌≡◌, ◌↔◌, ◌+◌, ◌*◌, drop}
use Rattle.swf_document.specs.Task.{weight_tasks, weight_task, weight_kind, weight_handler}
use Rattle.swf_document.specs.TaskNode.{handler_of, kind_of, task_of, tasks_of}
use Rattle.swf_same.proofs.task.+same.Given as goal

abbrev pub decreases-same_tasks : goal.decreases-same_tasks
decreases-same_tasks l = 8 * weight_tasks l.a.now + 7

abbrev pub decreases-same_named : goal.decreases-same_named
decreases-same_named l = 8 * weight_tasks (tasks_of l.a.now) + 6

abbrev pub decreases-same_task : goal.decreases-same_task
decreases-same_task l = 8 * weight_task (task_of l.a.now) + 5

abbrev pub decreases-same_kind : goal.decreases-same_kind
decreases-same_kind l = 8 * weight_kind (kind_of l.a.now) + 4

abbrev pub decreases-same_handler : goal.decreases-same_handler
decreases-same_handler l = 8 * weight_handler (handler_of l.a.now) + 3

abbrev pub invariant-same_named-loop-i : goal.invariant-same_named-loop-i
invariant-same_named-loop-i l = (tasks_of (drop l.i l.a) ≡ tasks_of (drop l.i l.b)) ↔ (tasks_of l.a ≡ tasks_of l.b)
