-- All faults of scope of a document, in the order of its members, which is that of their names (DSL 1.0.0, reference, "Workflow" and "Use").
use Rattle.std.specs.Prelude.{◌∷◌, [], ◌++◌, ◌+◌, ℕ, List, false, not, codes, nat_le}
use Rattle.swf_document.specs.Task.{Tasks, no_tasks, named}
use Rattle.swf_document.specs.declared.document.Document.{Document}
use Rattle.swf_document.specs.declared.document.NamedError.{NamedError}
use Rattle.swf_document.specs.declared.document.NamedRetry.{NamedRetry}
use Rattle.swf_document.specs.declared.fault.Fault.{Fault}
use Rattle.swf_document.specs.declared.fault.FaultKind.TheVariants.{FunctionCycle, TooMany}
use Rattle.swf_cycles.specs.Cycles.{calls_itself}
use Rattle.swf_validate.specs.Calls.{calls_of}
use Rattle.swf_validate.specs.Count.{count_tasks}
use Rattle.swf_scope.specs.Names.{nowhere, places_of, task_names, error_names, retry_names}
use Rattle.swf_scope.specs.Scope.{Known, Scope, Spot, under, fault_unless, filled_faults}
use Rattle.swf_scope.specs.PartFaults.{error_faults, retry_faults}
use Rattle.swf_validate.specs.TaskFaults.{place_of_task, in_list, list_faults, task_faults}

-- how many tasks a document may have
abbrev pub most_tasks : ℕ
most_tasks = 4096

-- the variables that stand at each place (DSL 1.0.0, "Runtime Expression Arguments")
abbrev pub workflow_variables : List (List ℕ)
workflow_variables = codes "workflow" ∷ []

abbrev pub output_variables : List (List ℕ)
output_variables = codes "input" ∷ codes "context" ∷ workflow_variables

abbrev pub task_variables : List (List ℕ)
task_variables = codes "task" ∷ codes "context" ∷ workflow_variables

-- those of an error with a name are those of the `raise`
abbrev pub error_variables : List (List ℕ)
error_variables = codes "input" ∷ task_variables

-- in a retry policy with a name the error that was caught is `error`
abbrev pub retry_variables : List (List ℕ)
retry_variables = codes "error" ∷ task_variables

abbrev pub known_in : Document → Known
known_in d = record {
  functions = places_of (task_names d.functions);
  errors = places_of (error_names d.errors);
  retries = places_of (retry_names d.retries);
}

abbrev pub outermost : Document → Scope
outermost d = record { known = known_in d; targets = nowhere; in_branch = false; around = task_variables }

abbrev pub errors_faults : Spot → List NamedError → List Fault
errors_faults p [] = []
errors_faults p (e ∷ es) = error_faults error_variables (under p e.name) e.error ++ errors_faults p es

abbrev pub retries_faults : Spot → List NamedRetry → List Fault
retries_faults p [] = []
retries_faults p (r ∷ rs) = retry_faults retry_variables (under p r.name) r.policy ++ retries_faults p rs

-- the functions from the i-th on, of which none comes to call itself
abbrev pub functions_faults : Scope → List (List ℕ) → ℕ → Tasks → List Fault
functions_faults s graph i no_tasks = []
functions_faults s graph i (named n t ts) = fault_unless (not (calls_itself graph i)) (place_of_task t) FunctionCycle ++ (task_faults s t ++ functions_faults s graph (i + 1) ts)

abbrev pub use_faults : Document → List Fault
use_faults d =
    errors_faults (codes "use" ∷ codes "errors" ∷ []) d.errors
    ++ (functions_faults (outermost d) (calls_of (known_in d).functions d.functions) 0 d.functions
    ++ retries_faults (codes "use" ∷ codes "retries" ∷ []) d.retries)

abbrev pub scope_faults : Document → List Fault
scope_faults d =
    fault_unless (nat_le (count_tasks d.tasks + count_tasks d.functions) most_tasks) [] TooMany
    ++ (list_faults (in_list (outermost d) d.tasks) d.tasks
    ++ (filled_faults workflow_variables (codes "input" ∷ codes "from" ∷ []) d.input_from
    ++ (filled_faults output_variables (codes "output" ∷ codes "as" ∷ []) d.output_as
    ++ use_faults d)))
