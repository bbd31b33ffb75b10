use Rattle.std.proofs.Common.{◌≡◌, drop}
use Rattle.swf_document.specs.TaskNode.{tasks_of}
use Rattle.swf_scope.specs.NamesView.{places_in}
use Rattle.swf_scope.specs.Names.{nowhere, added_from, task_names}
use Rattle.swf_scope.proofs.names.names_of_tasks.Given as goal

abbrev pub invariant-loop-place : goal.invariant-loop-place
invariant-loop-place l = added_from (places_in l.names) l.place (task_names (tasks_of (drop l.place l.tasks))) ≡ added_from nowhere 0 (task_names (tasks_of l.tasks))
