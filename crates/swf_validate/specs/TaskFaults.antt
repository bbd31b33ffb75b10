-- The faults of scope of a task, in the order of its members, which is that of their names (DSL 1.0.0, reference, "Task" and what follows it).
use Rattle.std.specs.Prelude.{◌∷◌, [], ◌++◌, ◌+◌, ◌&&◌, ◌==◌, ℕ, Bool, List, true, false, not, Option, Some, None, codes, is_some, nat_le}
use Rattle.std.specs.Fmt.{decimal}
use Rattle.swf_document.specs.Task.{Tasks, no_tasks, named, Task, task, Kind, call, do_all, emit, for, fork, listen, raise, run, set, switch, try, Handler, no_handler, handler, Catch, Loop}
use Rattle.swf_document.specs.declared.common.Case.{Case}
use Rattle.swf_document.specs.declared.common.Common.{Common}
use Rattle.swf_document.specs.declared.common.Flow.{Flow}
use Rattle.swf_document.specs.declared.fault.Fault.{Fault}
use Rattle.swf_document.specs.declared.fault.FaultKind.TheVariants.{DuplicateName, UnknownRetry, ExportInFork, TooMany}
use Rattle.swf_document.specs.declared.retry.RetryRef.{RetryRef}
use Rattle.swf_document.specs.declared.retry.RetryRef.TheVariants as tries
use Rattle.swf_scope.specs.Names.{Places, nowhere, places_of, added, task_names}
use Rattle.swf_scope.specs.PartFaults.{flow_faults, retry_faults, callee_faults, with_faults, filters_faults, raise_faults}
use Rattle.swf_scope.specs.Scope.{Scope, Spot, under, fault_unless, own, expression_faults, condition_faults, template_faults, filled_faults}

-- how many branches a `fork` may have
abbrev pub most_branches : ℕ
most_branches = 64

-- ---- switch

abbrev pub case_flow_faults : Places → Spot → Option Flow → List Fault
case_flow_faults targets p None = []
case_flow_faults targets p (Some f) = flow_faults targets p f

abbrev pub case_faults : Scope → Spot → Case → List Fault
case_faults s p c = case_flow_faults s.targets (under p (codes "then")) c.flow ++ condition_faults (own s.around) (under p (codes "when")) c.cond

-- each case with a name of its own
abbrev pub cases_faults : Scope → Places → Spot → ℕ → List Case → List Fault
cases_faults s seen p i [] = []
cases_faults s seen p i (c ∷ cs) =
    fault_unless (not (is_some (seen c.name))) (under (under p (decimal i)) c.name) DuplicateName
    ++ (case_faults s (under (under p (decimal i)) c.name) c
    ++ cases_faults s (added seen c.name i) p (i + 1) cs)

-- ---- what every task may have

-- in a branch no task exports
abbrev pub export_faults : Scope → Common → List Fault
export_faults s c =
    fault_unless (not (s.in_branch && is_some c.export_as)) (under c.place (codes "export")) ExportInFork
    ++ filled_faults (codes "output" ∷ own s.around) (under (under c.place (codes "export")) (codes "as")) c.export_as

abbrev pub input_faults : Scope → Common → List Fault
input_faults s c = filled_faults s.around (under (under c.place (codes "input")) (codes "from")) c.input_from

abbrev pub output_faults : Scope → Common → List Fault
output_faults s c = filled_faults (own s.around) (under (under c.place (codes "output")) (codes "as")) c.output_as

-- ---- the members of one kind alone, by where they stand among those that every task may have

-- a `for` has two variables in its rounds, a handler that of the error
abbrev pub with_variable : Scope → List ℕ → Scope
with_variable s n = record s { around = n ∷ s.around }

abbrev pub in_rounds : Scope → Loop → Scope
in_rounds s l = with_variable (with_variable s l.at) l.each

abbrev pub first_places : Tasks → Places
first_places ts = places_of (task_names ts)

abbrev pub in_list : Scope → Tasks → Scope
in_list s ts = record s { targets = first_places ts }

-- a branch has no targets
abbrev pub in_fork : Scope → Scope
in_fork s = record s { targets = nowhere; in_branch = true }

abbrev pub count_list : Tasks → ℕ
count_list no_tasks = 0
count_list (named n t ts) = count_list ts + 1

-- a `fork` of too many branches, told of the task
abbrev pub size_faults : Spot → Kind → List Fault
size_faults p (fork c ts) = fault_unless (nat_le (count_list ts) most_branches) p TooMany
size_faults p k = []

-- `listen`, behind `input`
abbrev pub before_output : Scope → Spot → Kind → List Fault
before_output s p (listen l) = filters_faults (own s.around) l.mode (under (under p (codes "listen")) (codes "to")) 0 l.filters
before_output s p k = []

-- `raise`, `run`, `set` and `switch`, behind `output`
abbrev pub before_then : Scope → Spot → Kind → List Fault
before_then s p (raise r) = raise_faults s (under (under p (codes "raise")) (codes "error")) r
before_then s p (run r) = filled_faults (own s.around) (under (under (under p (codes "run")) (codes "workflow")) (codes "input")) r.input
before_then s p (set t) = template_faults (own s.around) (under p (codes "set")) t
before_then s p (switch cs) = cases_faults s nowhere (under p (codes "switch")) 0 cs
before_then s p k = []

-- the retry of a `catch`
abbrev pub catch_retry_faults : Scope → Spot → Option RetryRef → List Fault
catch_retry_faults s p None = []
catch_retry_faults s p (Some (tries.Named n)) = fault_unless (is_some (s.known.retries n)) p UnknownRetry
catch_retry_faults s p (Some (tries.Written r)) = retry_faults s.around p r

-- the conditions of a `catch`, in which the error has its name
abbrev pub catch_faults : Scope → Spot → Catch → List Fault
catch_faults s p c =
    condition_faults s.around (under p (codes "exceptWhen")) c.except
    ++ (catch_retry_faults s (under p (codes "retry")) c.retry
    ++ condition_faults s.around (under p (codes "when")) c.cond)

-- the parts between those of one kind
abbrev pub middle : Scope → Common → Kind → List Fault
middle s c k =
    condition_faults (own s.around) (under c.place (codes "if")) c.cond
    ++ (input_faults s c
    ++ (before_output s c.place k
    ++ (output_faults s c
    ++ (before_then s c.place k
    ++ flow_faults s.targets (under c.place (codes "then")) c.flow))))

abbrev pub place_of_task : Task → Spot
place_of_task (task c k) = c.place

abbrev pub is_at : Option ℕ → ℕ → Bool
is_at None i = false
is_at (Some j) i = j == i

abbrev mutual
  -- the tasks of a list from the i-th on, each with a name that stands there first
  pub named_faults : Scope → Places → ℕ → Tasks → List Fault
  named_faults s places i no_tasks = []
  named_faults s places i (named n t ts) = fault_unless (is_at (places n) i) (place_of_task t) DuplicateName ++ (task_faults s t ++ named_faults s places (i + 1) ts)

  pub task_faults : Scope → Task → List Fault
  task_faults s (task c k) = size_faults c.place k ++ (before_export s c.place k ++ (export_faults s c ++ (before_if s c.place k ++ (middle s c k ++ behind_then s c.place k))))

  -- `call`, `do`, `emit` and `catch`
  pub before_export : Scope → Spot → Kind → List Fault
  before_export s p (call c) = callee_faults s.known.functions (under p (codes "call")) c
  before_export s p (do_all ts) = named_faults (in_list s ts) (first_places ts) 0 ts
  before_export s p (emit t) = template_faults (own s.around) (under (under (under p (codes "emit")) (codes "event")) (codes "with")) t
  before_export s p (for l ts) = named_faults (in_list (in_rounds s l) ts) (first_places ts) 0 ts
  before_export s p (try c ts h) = handler_faults (with_variable s c.name) h ++ catch_faults (with_variable s c.name) (under p (codes "catch")) c
  before_export s p k = []

  pub handler_faults : Scope → Handler → List Fault
  handler_faults s no_handler = []
  handler_faults s (handler ts) = named_faults (in_list s ts) (first_places ts) 0 ts

  -- `for` and `fork`
  pub before_if : Scope → Spot → Kind → List Fault
  before_if s p (for l ts) = expression_faults (own s.around) (under (under p (codes "for")) (codes "in")) l.items
  before_if s p (fork c ts) = named_faults (in_fork s) (first_places ts) 0 ts
  before_if s p k = []

  -- `try`, `while` and `with`
  pub behind_then : Scope → Spot → Kind → List Fault
  behind_then s p (call c) = with_faults (own s.around) (under p (codes "with")) c
  behind_then s p (for l ts) = condition_faults (own (in_rounds s l).around) (under p (codes "while")) l.guard
  behind_then s p (try c ts h) = named_faults (in_list s ts) (first_places ts) 0 ts
  behind_then s p k = []

-- all tasks of a list
abbrev pub list_faults : Scope → Tasks → List Fault
list_faults s ts = named_faults s (first_places ts) 0 ts
