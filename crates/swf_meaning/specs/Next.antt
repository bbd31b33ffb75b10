-- Where control goes after a task of a list (DSL, "Flow directives").
use Rattle.std.specs.Prelude.{◌+◌, ℕ, zero, suc, List, Option, Some, None, Result, Ok, if◌then◌else◌}
use Rattle.swf_value.specs.Value.{Value}
use Rattle.swf_text.specs.Same.{same}
use Rattle.swf_document.specs.Task.{Task, Tasks, no_tasks, named}
use Rattle.swf_document.specs.declared.common.Flow.{Flow}
use Rattle.swf_document.specs.declared.common.Flow.TheVariants as flows
use Rattle.swf_document.specs.declared.error.Problem.{Problem}
use Rattle.swf_meaning.specs.Complete.{Stepped, becomes, output_of}
use Rattle.swf_meaning.specs.Line.{Line, is_workflow}
use Rattle.swf_meaning.specs.Node.{Done, Running}
use Rattle.swf_meaning.specs.Rule.{◌>>=◌}

-- the task of a place, where the list has one
abbrev pub task_at : Tasks → ℕ → Option Task
task_at no_tasks i = None
task_at (named k t ts) zero = Some t
task_at (named k t ts) (suc i) = task_at ts i

-- the place of the task of a name, counted from i on
abbrev pub place_from : ℕ → List ℕ → Tasks → Option ℕ
place_from i n no_tasks = None
place_from i n (named k t ts) = if same k n then Some i else place_from (i + 1) n ts

-- what comes after a place of a list: another place, the end of the list, or the end of the workflow
pub data Goal : Type 0 where
  Place : ℕ → Goal
  ListEnd : Goal
  WorkflowEnd : Goal

abbrev pub place_or_end : Option ℕ → Goal
place_or_end None = ListEnd
place_or_end (Some i) = Place i

abbrev pub next : Tasks → ℕ → Flow → Goal
next ts i flows.Continue = Place (i + 1)
next ts i flows.Exit = ListEnd
next ts i flows.End = WorkflowEnd
next ts i (flows.Task n) = place_or_end (place_from 0 n ts)

-- `end` passes over `output.as` and `export` of the tasks around; the workflow's `output.as` is applied
abbrev pub ended : Line → Running → Value → Result Stepped Problem
ended l r w =
    if is_workflow r.task
    then (output_of l r w >>= λ x. Ok (becomes l (Done x flows.End)))
    else Ok (becomes l (Done w flows.End))
