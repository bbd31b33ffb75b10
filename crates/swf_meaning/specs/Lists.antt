-- How a list of tasks runs (DSL, "Do" and "Flow directives"; DSL reference, "For").
use Rattle.std.specs.Prelude.{◌+◌, ℕ, zero, length, List, Bool, Option, Some, None, option_and_then, Result, Ok, nat_lt, if◌then◌else◌}
use Rattle.swf_expr.specs.Expr.{Tree}
use Rattle.swf_value.specs.Value.{Value}
use Rattle.swf_document.specs.Task.{Task, Tasks, no_tasks, Kind, call, do_all, emit, for, fork, listen, raise, run, set, switch, try, wait, Handler, no_handler, handler}
use Rattle.swf_document.specs.declared.common.Flow.TheVariants as flows
use Rattle.swf_document.specs.declared.error.Problem.{Problem}
use Rattle.swf_meaning.specs.Around.{seen}
use Rattle.swf_meaning.specs.Complete.{Stepped, becomes, asked, complete}
use Rattle.swf_meaning.specs.Line.{Line, within}
use Rattle.swf_meaning.specs.Next.{Goal, Place, ListEnd, WorkflowEnd, task_at, ended}
use Rattle.swf_meaning.specs.Node.{Node, Fresh, Live, Done, At, Round, Seq, Each, Try, Catch, Fun, Sub, Running}
use Rattle.swf_meaning.specs.Parts.{kind_of, loop_in}
use Rattle.swf_meaning.specs.Rule.{◌>>=◌}

abbrev pub tasks_of_handler : Handler → Tasks
tasks_of_handler no_handler = no_tasks
tasks_of_handler (handler ts) = ts

-- a `try` runs its list, and the other one once it has caught an error
abbrev pub list_of_try : Tasks → Handler → Round → Tasks
list_of_try ts h Seq = ts
list_of_try ts h (Each items j) = ts
list_of_try ts h (Try n) = ts
list_of_try ts h (Catch p) = tasks_of_handler h
list_of_try ts h Fun = ts
list_of_try ts h (Sub d v c) = ts

-- the list that a task of this kind runs in a round
abbrev pub list_in : Kind → Round → Tasks
list_in (call c) round = no_tasks
list_in (do_all ts) round = ts
list_in (emit e) round = no_tasks
list_in (for l ts) round = ts
list_in (fork c ts) round = no_tasks
list_in (listen l) round = no_tasks
list_in (raise e) round = no_tasks
list_in (run s) round = no_tasks
list_in (set e) round = no_tasks
list_in (switch cs) round = no_tasks
list_in (try c ts h) round = list_of_try ts h round
list_in (wait d) round = no_tasks

abbrev pub list_of : Task → Round → Tasks
list_of t round = list_in (kind_of t) round

-- the `while` of a `for`
abbrev pub guard_of : Task → Option Tree
guard_of t = option_and_then (λ l. l.guard) (loop_in (kind_of t))

-- the first task is fresh with w; where the list has none, w is what it gives
abbrev pub begins_with : Value → Option Task → Node
begins_with w None = Done w flows.Continue
begins_with w (Some m) = Fresh m w

abbrev pub iteration_begins : Line → Running → Round → Value → Stepped
iteration_begins l r round w = becomes l (Live r (At round zero (begins_with w (task_at (list_of r.task round) zero))))

-- an iteration begins where `while` is true, and else the task is complete
abbrev pub iteration_decided : Line → Running → Round → Value → Bool → Result Stepped Problem
iteration_decided l r round w b = if b then Ok (iteration_begins l r round w) else complete l r w

-- `while` is asked before an iteration, and sees its variables
abbrev pub iteration_guarded : Line → Running → Round → Value → Option Tree → Result Stepped Problem
iteration_guarded l r round w None = Ok (iteration_begins l r round w)
iteration_guarded l r round w (Some e) = do
  b ← asked r.task (within (seen l r.task round) r) w e
  iteration_decided l r round w b

-- Iteration: the iteration of that number begins with w, unless no item is left
abbrev pub iteration : Line → Running → List Value → ℕ → Value → Result Stepped Problem
iteration l r items j w = if nat_lt j (length items) then iteration_guarded l r (Each items j) w (guard_of r.task) else complete l r w

-- a list has ended with w: a `for` goes on to its next iteration, and any other task is complete
abbrev pub list_ended : Line → Running → Round → Value → Result Stepped Problem
list_ended l r Seq w = complete l r w
list_ended l r (Each items j) w = iteration l r items (j + 1) w
list_ended l r (Try n) w = complete l r w
list_ended l r (Catch p) w = complete l r w
list_ended l r Fun w = complete l r w
list_ended l r (Sub d v c) w = complete l r w

-- the task of a place is fresh with w; past the last the list ends
abbrev pub arrives : Line → Running → Round → ℕ → Value → Option Task → Result Stepped Problem
arrives l r round i w None = list_ended l r round w
arrives l r round i w (Some m) = Ok (becomes l (Live r (At round i (Fresh m w))))

abbrev pub comes_to : Line → Running → Round → ℕ → Value → Result Stepped Problem
comes_to l r round i w = arrives l r round i w (task_at (list_of r.task round) i)

-- the workflow ends with w: of a sub-workflow the task that runs it is complete
abbrev pub workflow_ended : Line → Running → Round → Value → Result Stepped Problem
workflow_ended l r Seq w = ended l r w
workflow_ended l r (Each items j) w = ended l r w
workflow_ended l r (Try n) w = ended l r w
workflow_ended l r (Catch p) w = ended l r w
workflow_ended l r Fun w = ended l r w
workflow_ended l r (Sub d v c) w = complete l r w

-- control goes to a goal with w
abbrev pub goes_to : Line → Running → Round → Value → Goal → Result Stepped Problem
goes_to l r round w (Place i) = comes_to l r round i w
goes_to l r round w ListEnd = list_ended l r round w
goes_to l r round w WorkflowEnd = workflow_ended l r round w
