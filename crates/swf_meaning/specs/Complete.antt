-- How a task ends: with its output and its context, or with an error (DSL, "Data flow", "Output" and "Export"; "Error").
use Rattle.std.specs.Prelude.{ℕ, List, Bool, Option, Some, None, Result, Ok, Err, codes, if◌then◌else◌}
use Rattle.swf_expr.specs.Expr.{Tree}
use Rattle.swf_value.specs.Value.{Value}
use Rattle.swf_evaluation.specs.Operations.{is_true}
use Rattle.swf_evaluation.specs.declared.vars.Variable.{Variable}
use Rattle.swf_cloudevents.specs.declared.event.Event.{Event}
use Rattle.swf_document.specs.Task.{Task}
use Rattle.swf_document.specs.Template.{Template}
use Rattle.swf_document.specs.declared.common.Flow.{Flow}
use Rattle.swf_document.specs.declared.error.ErrorKind.TheVariants as kinds
use Rattle.swf_document.specs.declared.error.Problem.{Problem}
use Rattle.swf_templates.specs.Fill.{fill, first_of, transformed, is_within}
use Rattle.swf_meaning.specs.Line.{Line, before, within, behind}
use Rattle.swf_meaning.specs.Node.{Node, Done, Fault, Running}
use Rattle.swf_meaning.specs.Parts.{common_of}
use Rattle.swf_meaning.specs.Rule.{◌>>=◌, fails, value_of}

-- what a step leads to: the node in place of the one that took it, the context, how many of the instance's numbers it used, and the
-- event that goes out, where one does
pub record Stepped : Type 0 where
  pub node : Node
  pub context : Value
  pub used : ℕ
  pub emitted : Option Event

-- the context stays, and nothing goes out
abbrev pub becomes : Line → Node → Stepped
becomes l n = record { node = n; context = l.context; used = 0; emitted = None }

-- a task whose rule ends in an error ends in it
abbrev pub step_of : Line → Result Stepped Problem → Stepped
step_of l (Ok m) = m
step_of l (Err p) = becomes l (Fault p)

-- an expression is asked on a value
abbrev pub asked : Task → List Variable → Value → Tree → Result Bool Problem
asked t vars u e = do
  v ← value_of t (first_of e vars u)
  Ok (is_true v)

-- Enter: `input.from` on the raw input
abbrev pub input_of : Line → Task → Value → Result Value Problem
input_of l t v = value_of t (transformed (common_of t).input_from (before l t v) v)

-- `output.as` on the raw output
abbrev pub output_of : Line → Running → Value → Result Value Problem
output_of l r raw = value_of r.task (transformed (common_of r.task).output_as (within l r) raw)

abbrev pub finished : Value → Flow → Value → Stepped
finished w f c = record { node = Done w f; context = c; used = 0; emitted = None }

-- the transformed output w becomes the task's, and what `export.as` gives the context
abbrev pub exported : Line → Running → Flow → Value → Option Template → Result Stepped Problem
exported l r f w None = Ok (finished w f l.context)
exported l r f w (Some e) = do
  c ← value_of r.task (fill e (behind l r w) w)
  Ok (finished w f c)

-- Complete: the limit on the raw output, `output.as`, `export.as`, and control goes on by f
abbrev pub complete_by : Line → Running → Flow → Value → Result Stepped Problem
complete_by l r f raw =
    if is_within raw
    then (output_of l r raw >>= λ w. exported l r f w (common_of r.task).export_as)
    else fails r.task kinds.Runtime (codes "value limit")

-- by the task's own `then`
abbrev pub complete : Line → Running → Value → Result Stepped Problem
complete l r raw = complete_by l r (common_of r.task).flow raw
