-- How far the tasks are from being taken apart, and the rows that are left to add.
use Rattle.std.proofs.Common.{◌≡◌, ◌+◌, ◌*◌, ◌++◌, length, drop}
use Rattle.swf_document.specs.Task.{weight_tasks, weight_kind, weight_handler}
use Rattle.swf_document.specs.TaskNode.{kind_of, tasks_of, handler_of}
use Rattle.swf_catalog.specs.Numbers.{inside, begins_of}
use Rattle.swf_catalog.specs.Rows.{entries_of}
use Rattle.swf_catalog.proofs.numbering.+rows.Given as goal

abbrev pub decreases-add_kind : goal.decreases-add_kind
decreases-add_kind l = 8 * weight_kind (kind_of l.kind.now) + 5

abbrev pub decreases-add_tasks : goal.decreases-add_tasks
decreases-add_tasks l = 8 * weight_tasks l.tasks.now + 7

abbrev pub decreases-add_inside : goal.decreases-add_inside
decreases-add_inside l = 8 * weight_tasks (tasks_of l.tasks.now) + 6

abbrev pub decreases-add_try : goal.decreases-add_try
decreases-add_try l = 8 * (weight_tasks l.spec.now.tasks + weight_handler (handler_of l.spec.now.handler)) + 8

abbrev pub invariant-add_inside-loop-one : goal.invariant-add_inside-loop-one
invariant-add_inside-loop-one l = record {
  rows : entries_of l.rows.items ++ inside (length l.rows.items + 1) (tasks_of (drop l.one-index l.tasks)) ≡ entries_of l.fn.rows.items ++ inside (length l.fn.rows.items + 1) (tasks_of l.tasks);
  begins : l.begins.items ++ begins_of (length l.rows.items + 1) (tasks_of (drop l.one-index l.tasks)) ≡ begins_of (length l.fn.rows.items + 1) (tasks_of l.tasks);
}
