-- How much the tasks of a list weigh.
use Rattle.std.proofs.Common.{◌≡◌, ap, ℕ, zero, suc, ◌<◌, ◌≤◌, List, [], ◌∷◌, length, get_or, arith}
use Rattle.swf_document.specs.Task.{weight_task, weight_tasks}
use Rattle.swf_document.specs.TaskNode.{task_of, tasks_of}
use Rattle.swf_document.specs.declared.tasks.Named.{Named}

-- a task in a list weighs no more than all of it
pub weight_named : (ns : List Named) (i : ℕ) (n : Named) → i < length ns → n ≡ get_or ns i n → weight_task (task_of n.task) ≤ weight_tasks (tasks_of ns)
weight_named [] i n h p = absurd (omega arith)
weight_named (x ∷ xs) zero n h p = omega (arith, ap (λ m. weight_task (task_of m.task)) p)
weight_named (x ∷ xs) (suc i) n h p = omega (arith, weight_named xs i n (omega arith) p)
