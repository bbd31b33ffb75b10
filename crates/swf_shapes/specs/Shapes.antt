-- What may stand where in a document, by the sections of the DSL's reference (Serverless Workflow DSL 1.0.0).
use Rattle.std.specs.Prelude.{ℕ, List, [], ◌∷◌, Bool, true, false, codes}
use Rattle.swf_document.specs.declared.fault.FaultKind.TheVariants as kind
use Rattle.swf_shapes.specs.declared.shape.Shape.{Shape}
use Rattle.swf_shapes.specs.declared.shape.Shape.TheVariants as shape
use Rattle.swf_shapes.specs.declared.shape.Object.TheVariants as object
use Rattle.swf_shapes.specs.declared.shape.Rest.{Rest}
use Rattle.swf_shapes.specs.declared.shape.Rest.TheVariants as rest
use Rattle.swf_shapes.specs.declared.shape.Table.{Table}
use Rattle.swf_shapes.specs.declared.shape.Table.TheVariants as table
use Rattle.swf_shapes.specs.declared.shape.Top.{Top}
use Rattle.swf_shapes.specs.declared.shape.Top.TheVariants as top
use Rattle.swf_shapes.specs.declared.shape.Task.{Task}
use Rattle.swf_shapes.specs.declared.shape.Task.TheVariants as task
use Rattle.swf_shapes.specs.declared.shape.Part.{Part}
use Rattle.swf_shapes.specs.declared.shape.Part.TheVariants as part
use Rattle.swf_forms.specs.declared.form.Form.TheVariants as form
use Rattle.swf_shapes.specs.declared.shape.Range.TheVariants as range

-- a member by its name: whether it has to be there, and what it may be
pub record Row : Type 0 where
  pub name : List ℕ
  pub is_required : Bool
  pub shape : Shape

abbrev pub required : List ℕ → Shape → Row
required k s = record { name = k; is_required = true; shape = s }

abbrev pub optional : List ℕ → Shape → Row
optional k s = record { name = k; is_required = false; shape = s }

-- a member of the DSL that is not in the profile
abbrev pub left_out : List ℕ → Row
left_out k = optional k (shape.Refused kind.NotInProfile)

-- a list of named tasks
abbrev pub tasks : Shape
tasks = shape.List (object.Single (table.Top top.Flows) rest.Task)

-- a list of named cases
abbrev pub cases : Shape
cases = shape.List (object.Single (table.Top top.Empty) rest.Case)

-- a list of filters
abbrev pub filters : Shape
filters = shape.List (object.Of (table.Part part.Filter) rest.Unknown)

-- an object of templates
abbrev pub templates : Shape
templates = shape.Object (object.Of (table.Top top.Empty) rest.Template)

-- an object of any members
abbrev pub any_object : Shape
any_object = shape.Object (object.Of (table.Top top.Empty) rest.Any)

-- an object without members
abbrev pub empty : Shape
empty = shape.Object (object.Of (table.Top top.Empty) rest.Unknown)

-- any text
abbrev pub plain : Shape
plain = shape.Text form.Plain

-- a label
abbrev pub label : Shape
label = shape.Text form.Label

-- a name that expressions may use
abbrev pub variable : Shape
variable = shape.Text form.Variable

-- an expression place
abbrev pub expression : Shape
expression = shape.Text form.Expression

-- a text that may be an expression
abbrev pub text_template : Shape
text_template = shape.Text form.Template

-- an expression place, or an object that is a template
abbrev pub transform : Shape
transform = shape.TextOr form.Expression (object.Of (table.Top top.Empty) rest.Template)

-- the members of a document and of its parts, and those that tasks share
abbrev pub top_rows : Top → List Row
-- none
top_rows top.Empty = []
-- "Workflow"
top_rows top.Document =
    required (codes "do") tasks ∷
    required (codes "document") (shape.Object (object.Of (table.Top top.Head) rest.Unknown)) ∷
    optional (codes "evaluate") (shape.Object (object.Of (table.Top top.Evaluate) rest.Unknown)) ∷
    optional (codes "input") (shape.Object (object.Of (table.Top top.Input) rest.Unknown)) ∷
    optional (codes "output") (shape.Object (object.Of (table.Top top.Output) rest.Unknown)) ∷
    left_out (codes "schedule") ∷
    left_out (codes "timeout") ∷
    optional (codes "use") (shape.Object (object.Of (table.Top top.Use) rest.Unknown)) ∷
    []
-- "Document"
top_rows top.Head =
    required (codes "dsl") (shape.Text form.Dsl) ∷
    optional (codes "metadata") any_object ∷
    required (codes "name") label ∷
    required (codes "namespace") label ∷
    optional (codes "summary") plain ∷
    optional (codes "tags") any_object ∷
    optional (codes "title") plain ∷
    required (codes "version") (shape.Text form.Version) ∷
    []
-- "Evaluate"
top_rows top.Evaluate =
    optional (codes "language") (shape.Text form.Language) ∷
    optional (codes "mode") (shape.Text form.Mode) ∷
    []
-- "Use"
top_rows top.Use =
    left_out (codes "authentications") ∷
    left_out (codes "catalogs") ∷
    optional (codes "errors") (shape.Object (object.Of (table.Top top.Empty) rest.Error)) ∷
    left_out (codes "extensions") ∷
    optional (codes "functions") (shape.Object (object.Of (table.Top top.Empty) rest.Function)) ∷
    optional (codes "retries") (shape.Object (object.Of (table.Top top.Empty) rest.Policy)) ∷
    left_out (codes "secrets") ∷
    left_out (codes "timeouts") ∷
    []
-- "Input"
top_rows top.Input =
    optional (codes "from") transform ∷
    left_out (codes "schema") ∷
    []
-- "Output" and "Export"
top_rows top.Output =
    optional (codes "as") transform ∷
    left_out (codes "schema") ∷
    []
-- "Task", of every task
top_rows top.Common =
    optional (codes "export") (shape.Object (object.Of (table.Top top.Output) rest.Unknown)) ∷
    optional (codes "if") expression ∷
    optional (codes "input") (shape.Object (object.Of (table.Top top.Input) rest.Unknown)) ∷
    optional (codes "metadata") any_object ∷
    optional (codes "output") (shape.Object (object.Of (table.Top top.Output) rest.Unknown)) ∷
    optional (codes "then") plain ∷
    left_out (codes "timeout") ∷
    []
-- the same inside a function
top_rows top.FunctionCommon =
    left_out (codes "export") ∷
    optional (codes "if") expression ∷
    optional (codes "input") (shape.Object (object.Of (table.Top top.Input) rest.Unknown)) ∷
    optional (codes "metadata") any_object ∷
    optional (codes "output") (shape.Object (object.Of (table.Top top.Output) rest.Unknown)) ∷
    optional (codes "then") plain ∷
    left_out (codes "timeout") ∷
    []
-- "Flow Directive": the names that no task has
top_rows top.Flows =
    optional (codes "continue") (shape.Refused kind.BadText) ∷
    optional (codes "end") (shape.Refused kind.BadText) ∷
    optional (codes "exit") (shape.Refused kind.BadText) ∷
    []

-- the members of a task beside those that tasks share, by its keyword
abbrev pub task_rows : Task → List Row
-- "HTTP Call"
task_rows task.HttpCall =
    required (codes "call") (shape.Text form.Callee) ∷
    required (codes "with") (shape.Object (object.Of (table.Part part.Http) rest.Unknown)) ∷
    []
-- "Call", of a function
task_rows task.FunctionCall =
    required (codes "call") (shape.Text form.Callee) ∷
    optional (codes "with") templates ∷
    []
-- "Call", of what is not called
task_rows task.OtherCall =
    required (codes "call") (shape.Text form.Callee) ∷
    optional (codes "with") shape.Any ∷
    []
-- "Do"
task_rows task.Do =
    required (codes "do") tasks ∷
    []
-- "Emit"
task_rows task.Emit =
    required (codes "emit") (shape.Object (object.Of (table.Part part.Emitted) rest.Unknown)) ∷
    []
-- "For"
task_rows task.For =
    required (codes "do") tasks ∷
    required (codes "for") (shape.Object (object.Of (table.Part part.Loop) rest.Unknown)) ∷
    optional (codes "while") expression ∷
    []
-- "Fork"
task_rows task.Fork =
    required (codes "fork") (shape.Object (object.Of (table.Part part.Branches) rest.Unknown)) ∷
    []
-- "Listen"
task_rows task.Listen =
    left_out (codes "foreach") ∷
    required (codes "listen") (shape.Object (object.Of (table.Part part.Heard) rest.Unknown)) ∷
    []
-- "Raise"
task_rows task.Raise =
    required (codes "raise") (shape.Object (object.Of (table.Part part.Raised) rest.Unknown)) ∷
    []
-- "Run"
task_rows task.Run =
    required (codes "run") (shape.Object (object.Of (table.Part part.Ran) rest.Unknown)) ∷
    []
-- "Set"
task_rows task.Set =
    required (codes "set") (shape.TextOr form.Enclosed (object.Of (table.Top top.Empty) rest.Template)) ∷
    []
-- "Switch"
task_rows task.Switch =
    required (codes "switch") cases ∷
    []
-- "Try"
task_rows task.Try =
    required (codes "catch") (shape.Object (object.Of (table.Part part.Catch) rest.Unknown)) ∷
    required (codes "try") tasks ∷
    []
-- "Wait"
task_rows task.Wait =
    required (codes "wait") shape.Duration ∷
    []

-- the members of the parts of tasks
abbrev pub part_rows : Part → List Row
-- "HTTP Call"
part_rows part.Http =
    optional (codes "body") shape.Template ∷
    required (codes "endpoint") (shape.TextOr form.Endpoint (object.Of (table.Part part.Address) rest.Unknown)) ∷
    optional (codes "headers") templates ∷
    required (codes "method") (shape.Text form.Method) ∷
    optional (codes "output") (shape.Text form.Output) ∷
    optional (codes "query") templates ∷
    optional (codes "redirect") shape.Flag ∷
    []
-- "Endpoint"
part_rows part.Address =
    left_out (codes "authentication") ∷
    required (codes "uri") (shape.Text form.Endpoint) ∷
    []
-- "Emit"
part_rows part.Emitted =
    required (codes "event") (shape.Object (object.Of (table.Part part.Event) rest.Unknown)) ∷
    []
-- "Emit"
part_rows part.Event =
    required (codes "with") (shape.Object (object.Of (table.Part part.Attributes) rest.Template)) ∷
    []
-- "Event Properties"
part_rows part.Attributes =
    left_out (codes "id") ∷
    required (codes "source") shape.Template ∷
    left_out (codes "specversion") ∷
    left_out (codes "time") ∷
    required (codes "type") shape.Template ∷
    []
-- "For"
part_rows part.Loop =
    optional (codes "at") variable ∷
    optional (codes "each") variable ∷
    required (codes "in") expression ∷
    []
-- "Fork"
part_rows part.Branches =
    required (codes "branches") tasks ∷
    optional (codes "compete") shape.Flag ∷
    []
-- "Listen"
part_rows part.Heard =
    left_out (codes "foreach") ∷
    optional (codes "read") (shape.Text form.Read) ∷
    required (codes "to") (shape.Object object.To) ∷
    []
-- "Event Consumption Strategy"
part_rows part.To =
    optional (codes "all") filters ∷
    optional (codes "any") filters ∷
    optional (codes "one") (shape.Object (object.Of (table.Part part.Filter) rest.Unknown)) ∷
    left_out (codes "until") ∷
    []
-- "Event Filter"
part_rows part.Filter =
    optional (codes "correlate") (shape.Object (object.Of (table.Top top.Empty) rest.Correlation)) ∷
    required (codes "with") templates ∷
    []
-- "Event Filter"
part_rows part.Correlation =
    optional (codes "expect") shape.Template ∷
    required (codes "from") expression ∷
    []
-- "Raise"
part_rows part.Raised =
    required (codes "error") (shape.TextOr form.Plain (object.Of (table.Part part.Error) rest.Unknown)) ∷
    []
-- "Error"
part_rows part.Error =
    optional (codes "detail") text_template ∷
    optional (codes "instance") text_template ∷
    required (codes "status") (shape.Number range.Status) ∷
    optional (codes "title") text_template ∷
    required (codes "type") text_template ∷
    []
-- "Run"
part_rows part.Ran =
    optional (codes "await") shape.True ∷
    left_out (codes "container") ∷
    left_out (codes "script") ∷
    left_out (codes "shell") ∷
    required (codes "workflow") (shape.Object (object.Of (table.Part part.Workflow) rest.Unknown)) ∷
    []
-- "Workflow Process"
part_rows part.Workflow =
    optional (codes "input") shape.Template ∷
    required (codes "name") label ∷
    required (codes "namespace") label ∷
    optional (codes "version") (shape.Text form.VersionOrLatest) ∷
    []
-- "Switch Case"
part_rows part.Case =
    optional (codes "then") plain ∷
    optional (codes "when") expression ∷
    []
-- "Catch"
part_rows part.Catch =
    optional (codes "as") variable ∷
    optional (codes "do") tasks ∷
    optional (codes "errors") (shape.Object (object.Of (table.Part part.Errors) rest.Unknown)) ∷
    optional (codes "exceptWhen") expression ∷
    optional (codes "retry") (shape.TextOr form.Plain (object.Of (table.Part part.Policy) rest.Unknown)) ∷
    optional (codes "when") expression ∷
    []
-- "Catch"
part_rows part.Errors =
    optional (codes "with") (shape.Object object.Caught) ∷
    []
-- "Error Filter"
part_rows part.Caught =
    optional (codes "detail") plain ∷
    optional (codes "instance") plain ∷
    optional (codes "status") (shape.Number range.Status) ∷
    optional (codes "title") plain ∷
    optional (codes "type") plain ∷
    []
-- "Error Filter"
part_rows part.CaughtDetails =
    optional (codes "details") plain ∷
    optional (codes "instance") plain ∷
    optional (codes "status") (shape.Number range.Status) ∷
    optional (codes "title") plain ∷
    optional (codes "type") plain ∷
    []
-- "Retry"
part_rows part.Policy =
    optional (codes "backoff") (shape.Object (object.Of (table.Part part.Backoff) rest.Unknown)) ∷
    optional (codes "delay") shape.Duration ∷
    optional (codes "exceptWhen") expression ∷
    left_out (codes "jitter") ∷
    optional (codes "limit") (shape.Object (object.Of (table.Part part.Limit) rest.Unknown)) ∷
    optional (codes "when") expression ∷
    []
-- "Backoff"
part_rows part.Backoff =
    optional (codes "constant") empty ∷
    left_out (codes "exponential") ∷
    left_out (codes "linear") ∷
    []
-- "Retry Limit"
part_rows part.Limit =
    optional (codes "attempt") (shape.Object (object.Of (table.Part part.Attempt) rest.Unknown)) ∷
    left_out (codes "duration") ∷
    []
-- "Retry Limit"
part_rows part.Attempt =
    optional (codes "count") (shape.Number range.Count) ∷
    left_out (codes "duration") ∷
    []

-- the members that a table names, by ascending name
abbrev pub rows : Table → List Row
rows (table.Top t) = top_rows t
rows (table.Task t) = task_rows t
rows (table.Part t) = part_rows t

-- an object of the members of a table alone
abbrev pub only : Part → Shape
only p = shape.Object (object.Of (table.Part p) rest.Unknown)

-- what may stand beside the members that a table names
abbrev pub rest_shape : Rest → Shape
rest_shape rest.Unknown = shape.Refused kind.UnknownMember
rest_shape rest.Any = shape.Any
rest_shape rest.Template = shape.Template
rest_shape rest.Task = shape.Object object.Task
rest_shape rest.Function = shape.Object object.Function
rest_shape rest.Case = only part.Case
rest_shape rest.Error = only part.Error
rest_shape rest.Policy = only part.Policy
rest_shape rest.Correlation = only part.Correlation
