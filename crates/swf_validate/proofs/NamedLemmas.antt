-- What a named task weighs, and how many there are.
use Rattle.std.proofs.Common.{◌≡◌, ◌∙◌, ℕ, ◌+◌, List, [], ◌∷◌, ◌++◌, drop, length, not, ap, sym, refl, append_assoc, arith}
use Rattle.swf_document.specs.TaskNode.{task_of, tasks_of}
use Rattle.swf_document.specs.declared.fault.Fault.{Fault}
use Rattle.swf_document.specs.declared.fault.FaultKind.TheVariants.{DuplicateName, FunctionCycle}
use Rattle.swf_document.specs.declared.tasks.Named.{Named}
use Rattle.swf_cycles.specs.Cycles.{calls_itself}
use Rattle.swf_scope.specs.Names.{Places}
use Rattle.swf_scope.specs.Scope.{Scope, fault_unless}
use Rattle.swf_validate.specs.Calls.{calls_of}
use Rattle.swf_validate.specs.DocumentFaults.{functions_faults}
use Rattle.swf_validate.specs.TaskFaults.{count_list, is_at, named_faults, place_of_task, task_faults}

pub count-tasks_of : (ns : List Named) → count_list (tasks_of ns) ≡ length ns
count-tasks_of [] = refl
count-tasks_of (n ∷ ns) = omega (arith, count-tasks_of ns)

-- each function has a row
pub length-calls_of : (f : Places) (ns : List Named) → length (calls_of f (tasks_of ns)) ≡ length ns
length-calls_of f [] = refl
length-calls_of f (n ∷ ns) = omega (arith, length-calls_of f ns)

-- one more task
pub named_step : (s : Scope) (places : Places) (ns : List Named) (i : ℕ) (n : Named) (a b c whole : List Fault) → drop i ns ≡ n ∷ drop (i + 1) ns → b ≡ a ++ fault_unless (is_at (places n.name) i) (place_of_task (task_of n.task)) DuplicateName → c ≡ b ++ task_faults s (task_of n.task)
    → a ++ named_faults s places i (tasks_of (drop i ns)) ≡ whole → c ++ named_faults s places (i + 1) (tasks_of (drop (i + 1) ns)) ≡ whole
named_step s places ns i n a b c whole first told inside e =
    let one = fault_unless (is_at (places n.name) i) (place_of_task (task_of n.task)) DuplicateName in
    let two = task_faults s (task_of n.task) in
    let rest = named_faults s places (i + 1) (tasks_of (drop (i + 1) ns)) in
    let joined : c ++ rest ≡ a ++ (one ++ (two ++ rest)) = rw (inside, told) (simp append_assoc) in
    joined ∙ ap (λ l. a ++ named_faults s places i (tasks_of l)) (sym first) ∙ e

-- one more function
pub functions_step : (s : Scope) (graph : List (List ℕ)) (ns : List Named) (i : ℕ) (n : Named) (a b c whole : List Fault) → drop i ns ≡ n ∷ drop (i + 1) ns → b ≡ a ++ fault_unless (not (calls_itself graph i)) (place_of_task (task_of n.task)) FunctionCycle → c ≡ b ++ task_faults s (task_of n.task)
    → a ++ functions_faults s graph i (tasks_of (drop i ns)) ≡ whole → c ++ functions_faults s graph (i + 1) (tasks_of (drop (i + 1) ns)) ≡ whole
functions_step s graph ns i n a b c whole first told inside e =
    let one = fault_unless (not (calls_itself graph i)) (place_of_task (task_of n.task)) FunctionCycle in
    let two = task_faults s (task_of n.task) in
    let rest = functions_faults s graph (i + 1) (tasks_of (drop (i + 1) ns)) in
    let joined : c ++ rest ≡ a ++ (one ++ (two ++ rest)) = rw (inside, told) (simp append_assoc) in
    joined ∙ ap (λ l. a ++ functions_faults s graph i (tasks_of l)) (sym first) ∙ e
