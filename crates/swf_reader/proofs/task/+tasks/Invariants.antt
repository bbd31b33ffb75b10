use Rattle.std.proofs.Common.{◌≡◌, ◌+◌, ◌*◌, ◌≤◌, drop}
use Rattle.swf_value.specs.Node.{items_of, weight, weight_items}
use Rattle.swf_reader.specs.Reads.{items_in}
use Rattle.swf_reader.proofs.TaskLemmas.{before_tasks}
use Rattle.swf_reader.proofs.task.+tasks.Given as goal

abbrev pub decreases-tasks_in : goal.decreases-tasks_in
decreases-tasks_in l = 8 * weight l.value.now

abbrev pub decreases-items_in : goal.decreases-items_in
decreases-items_in l = 8 * weight_items (items_of l.items.now) + 2

abbrev pub decreases-item_at : goal.decreases-item_at
decreases-item_at l = 8 * weight l.item.now + 1

abbrev pub decreases-item_in : goal.decreases-item_in
decreases-item_in l = 8 * weight l.item.now

abbrev pub decreases-named_in : goal.decreases-named_in
decreases-named_in l = 8 * weight l.member.now.value + 9

abbrev pub decreases-task_in : goal.decreases-task_in
decreases-task_in l = 8 * weight l.value.now + 8

abbrev pub decreases-kind_at : goal.decreases-kind_at
decreases-kind_at l = 8 * weight l.value.now + 7

abbrev pub decreases-kind_in : goal.decreases-kind_in
decreases-kind_in l = 8 * weight l.value.now + 6

abbrev pub decreases-for_kind : goal.decreases-for_kind
decreases-for_kind l = 8 * weight l.value.now + 4

abbrev pub decreases-fork_kind : goal.decreases-fork_kind
decreases-fork_kind l = 8 * weight l.value.now + 4

abbrev pub decreases-try_kind : goal.decreases-try_kind
decreases-try_kind l = 8 * weight l.value.now + 5

abbrev pub decreases-handler_in : goal.decreases-handler_in
decreases-handler_in l = 8 * weight l.value.now + 4

abbrev pub decreases-tasks_under : goal.decreases-tasks_under
decreases-tasks_under l = 8 * weight l.value.now + 3

abbrev pub decreases-tasks_inside : goal.decreases-tasks_inside
decreases-tasks_inside l = 8 * weight l.value.now + 3

abbrev pub decreases-tasks_at : goal.decreases-tasks_at
decreases-tasks_at l = 8 * weight l.value.now + 2

-- the tasks so far and those of what is left are all, and what is left weighs no more
abbrev pub invariant-items_in-loop-index : goal.invariant-items_in-loop-index
invariant-items_in-loop-index l = record {
  tasks : items_in l.place 0 (items_of l.items) ≡ before_tasks l.tasks.items (items_in l.place l.index (items_of (drop l.index l.items)));
  weigh : weight_items (items_of (drop l.index l.items)) ≤ weight_items (items_of l.items);
}
