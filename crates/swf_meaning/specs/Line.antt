-- What the expressions of a task see besides their input (DSL, "Runtime expressions", "Runtime expression arguments").
use Rattle.std.specs.Prelude.{ℕ, pos, List, [], ◌∷◌, ◌++◌, Bool, true, false, codes, if◌then◌else◌}
use Rattle.swf_text.specs.Pointer.{pointer}
use Rattle.swf_value.specs.Value.{Value, int, text, object, member, no_members}
use Rattle.swf_evaluation.specs.declared.vars.Variable.{Variable}
use Rattle.swf_document.specs.Task.{Task}
use Rattle.swf_document.specs.declared.document.Document.{Document}
use Rattle.swf_meaning.specs.Documents.{Loaded}
use Rattle.swf_meaning.specs.Node.{Running}
use Rattle.swf_meaning.specs.Parts.{place_of}

-- what every step of a strand goes by besides its tree: the document, whose errors and retries have names; the id of the instance,
-- when it started, the raw input of its workflow, and the context; and the variables of the loops and of the errors caught around
-- the task that takes the step, those of the innermost last; and how many functions and sub-workflows are around it
pub record Line : Type 0 where
  pub document : Document
  pub id : List ℕ
  pub started : ℕ
  pub input : Value
  pub context : Value
  pub around : List Variable
  pub depth : ℕ

-- what a step goes by that needs more of the world than its strand: the number of the instance's next event, how many branches the
-- instance has, the moment, and the loaded documents
pub record Site : Type 0 where
  pub number : ℕ
  pub branches : ℕ
  pub now : ℕ
  pub documents : List Loaded

abbrev pub variable : List ℕ → Value → Variable
variable x v = record { name = x; value = v }

-- a workflow stands at the empty place
abbrev pub is_nowhere : List (List ℕ) → Bool
is_nowhere [] = true
is_nowhere (p ∷ ps) = false

abbrev pub is_workflow : Task → Bool
is_workflow t = is_nowhere (place_of t)

abbrev pub epoch : ℕ → Value
epoch n = object (member (codes "epoch") (object (member (codes "milliseconds") (int (pos n)) no_members)) no_members)

-- `$workflow`, of an instance of that id, which started then on that input
abbrev pub workflow_value : List ℕ → ℕ → Value → Value
workflow_value id started input = object (member (codes "id") (text id) (member (codes "input") input (member (codes "startedAt") (epoch started) no_members)))

-- the name of a task is the last part of its place
abbrev pub last_part : List (List ℕ) → List ℕ
last_part [] = []
last_part (p ∷ []) = p
last_part (p ∷ ps) = last_part ps

-- `$task`, of a task with that raw input
abbrev pub task_value : Task → Value → Value
task_value t v = object (member (codes "input") v (member (codes "name") (text (last_part (place_of t))) (member (codes "reference") (text (pointer (place_of t))) no_members)))

abbrev pub of_workflow : Line → List Variable
of_workflow l = variable (codes "workflow") (workflow_value l.id l.started l.input) ∷ []

abbrev pub with_context : Line → List Variable
with_context l = of_workflow l ++ variable (codes "context") l.context ∷ []

abbrev pub of_task : Line → Task → Value → List Variable
of_task l t v = with_context l ++ variable (codes "task") (task_value t v) ∷ l.around

-- what `input.from` sees: of a workflow `$workflow` alone
abbrev pub before : Line → Task → Value → List Variable
before l t v = if is_workflow t then of_workflow l else of_task l t v

-- what `if`, a task's own definition and `output.as` see
abbrev pub within : Line → Running → List Variable
within l r = (if is_workflow r.task then with_context l else of_task l r.task r.raw) ++ variable (codes "input") r.input ∷ []

-- what `export.as` sees, on the transformed output w
abbrev pub behind : Line → Running → Value → List Variable
behind l r w = within l r ++ variable (codes "output") w ∷ []
