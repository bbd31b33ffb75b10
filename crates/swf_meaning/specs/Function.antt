-- A function that is called, and a workflow that is run: a task of another definition runs inside the task (DSL reference, "Function
-- Call" and "Run").
use Rattle.std.specs.Prelude.{ℕ, zero, List, codes, nat_le, Option, Some, None, Result, Ok, if◌then◌else◌}
use Rattle.swf_text.specs.Same.{same}
use Rattle.swf_value.specs.Value.{Value, null}
use Rattle.swf_document.specs.Task.{Task, Tasks, no_tasks, named}
use Rattle.swf_document.specs.Template.{Template}
use Rattle.swf_document.specs.declared.document.Document.{Document}
use Rattle.swf_document.specs.declared.error.ErrorKind.TheVariants as kinds
use Rattle.swf_document.specs.declared.error.Problem.{Problem}
use Rattle.swf_document.specs.declared.run.RunSpec.{RunSpec}
use Rattle.swf_templates.specs.Fill.{transformed}
use Rattle.swf_meaning.specs.Complete.{Stepped, becomes}
use Rattle.swf_meaning.specs.Documents.{document_at, resolved}
use Rattle.swf_meaning.specs.Line.{Line, Site, within}
use Rattle.swf_meaning.specs.Node.{Fresh, Live, At, Round, Fun, Sub, Running}
use Rattle.swf_meaning.specs.Parts.{workflow}
use Rattle.swf_meaning.specs.Rule.{◌>>=◌, fails, value_of}

-- how many functions and sub-workflows may be around each other
abbrev pub most_depth : ℕ
most_depth = 16

abbrev pub in_depth : Line → Task → Result (Unit {0}) Problem
in_depth l t = if nat_le most_depth l.depth then fails t kinds.Runtime (codes "depth limit") else Ok tt

-- its input: what its template gives, and else that of the task
abbrev pub input_by : Line → Running → Option Template → Result Value Problem
input_by l r e = value_of r.task (transformed e (within l r) r.input)

abbrev pub function_in : List ℕ → Tasks → Option Task
function_in n no_tasks = None
function_in n (named k t ts) = if same k n then Some t else function_in n ts

-- a document has each function that it calls
abbrev pub or_unknown_function : Task → Option Task → Result Task Problem
or_unknown_function t None = fails t kinds.Configuration (codes "unknown function")
or_unknown_function t (Some f) = Ok f

abbrev pub or_unknown_workflow : Task → Option Document → Result Document Problem
or_unknown_workflow t None = fails t kinds.Configuration (codes "unknown workflow")
or_unknown_workflow t (Some d) = Ok d

-- the task of a round begins with that input
abbrev pub runs_inside : Line → Running → Round → Task → Value → Stepped
runs_inside l r round t v = becomes l (Live r (At round zero (Fresh t v)))

-- `call` of a function
abbrev pub calling : Line → Running → List ℕ → Option Template → Result Stepped Problem
calling l r n e = do
  _ ← in_depth l r.task
  v ← input_by l r e
  f ← or_unknown_function r.task (function_in n l.document.functions)
  Ok (runs_inside l r Fun f v)

-- `run` of a workflow, on a context of its own
abbrev pub running : Site → Line → Running → RunSpec → Result Stepped Problem
running s l r spec = do
  _ ← in_depth l r.task
  v ← input_by l r spec.input
  d ← or_unknown_workflow r.task (document_at (resolved s.documents spec.key) s.documents)
  Ok (runs_inside l r (Sub d v null) (workflow d) v)
