-- What the members of an object are judged by, and how a task is told by its keyword.
use Rattle.std.specs.Prelude.{◌&&◌, ◌||◌, ℕ, List, [], ◌∷◌, Bool, true, false, codes, Option, Some, None, is_some, if◌then◌else◌}
use Rattle.swf_text.specs.Same.{same}
use Rattle.swf_value.specs.Value.{Value, text, Members, no_members, member}
use Rattle.swf_value.specs.Members.{at}
use Rattle.swf_document.specs.declared.fault.FaultKind.{FaultKind}
use Rattle.swf_document.specs.declared.fault.FaultKind.TheVariants as kind
use Rattle.swf_shapes.specs.declared.layout.Keyword.{Keyword}
use Rattle.swf_shapes.specs.declared.layout.Keyword.TheVariants as keyword
use Rattle.swf_shapes.specs.declared.layout.Layout.{Layout}
use Rattle.swf_shapes.specs.declared.layout.Seen.{Seen}
use Rattle.swf_shapes.specs.declared.layout.Seen.TheVariants as seen
use Rattle.swf_shapes.specs.declared.shape.Shape.{Shape}
use Rattle.swf_shapes.specs.declared.shape.Object.{Object}
use Rattle.swf_shapes.specs.declared.shape.Object.TheVariants as object
use Rattle.swf_shapes.specs.declared.shape.Rest.{Rest}
use Rattle.swf_shapes.specs.declared.shape.Rest.TheVariants as rest
use Rattle.swf_shapes.specs.declared.shape.Table.{Table}
use Rattle.swf_shapes.specs.declared.shape.Table.TheVariants as table
use Rattle.swf_shapes.specs.declared.shape.Top.TheVariants as top
use Rattle.swf_shapes.specs.declared.shape.Task.{Task}
use Rattle.swf_shapes.specs.declared.shape.Task.TheVariants as task
use Rattle.swf_shapes.specs.declared.shape.Part.TheVariants as part
use Rattle.swf_shapes.specs.Shapes.{Row, rows, rest_shape}

-- whether an object has a member of the name
abbrev pub has : List ℕ → Members → Bool
has k ms = is_some (at k ms)

-- the twelve keywords (DSL reference, "Task")
abbrev pub keywords : List (List ℕ × Keyword)
keywords =
    (codes "call", keyword.Call) ∷
    (codes "do", keyword.Of task.Do) ∷
    (codes "emit", keyword.Of task.Emit) ∷
    (codes "for", keyword.Of task.For) ∷
    (codes "fork", keyword.Of task.Fork) ∷
    (codes "listen", keyword.Of task.Listen) ∷
    (codes "raise", keyword.Of task.Raise) ∷
    (codes "run", keyword.Of task.Run) ∷
    (codes "set", keyword.Of task.Set) ∷
    (codes "switch", keyword.Of task.Switch) ∷
    (codes "try", keyword.Of task.Try) ∷
    (codes "wait", keyword.Of task.Wait) ∷
    []

-- the keyword that a name is
abbrev pub keyword_in : List (List ℕ × Keyword) → List ℕ → Option Keyword
keyword_in [] k = None
keyword_in (w ∷ ws) k = if same k w.0 then Some w.1 else keyword_in ws k

-- the keywords that were seen, with one more
abbrev pub seen_more : Seen → Option Keyword → Seen
seen_more s None = s
seen_more seen.Nothing (Some w) = seen.One w
seen_more (seen.One v) (Some w) = seen.Several
seen_more seen.Several (Some w) = seen.Several

-- the keyword that a member is; `do` beside `for` belongs to it
abbrev pub keyword_of : Bool → List ℕ → Option Keyword
keyword_of beside_for k = if beside_for && same k (codes "do") then None else keyword_in keywords k

abbrev pub seen_in : Bool → Seen → Members → Seen
seen_in f s no_members = s
seen_in f s (member k d ms) = seen_in f (seen_more s (keyword_of f k)) ms

-- what a task calls: a function, unless it is one of the calls of the DSL
abbrev pub callee_task : List ℕ → Task
callee_task t =
    if same t (codes "http") then task.HttpCall
    else (if same t (codes "asyncapi") || same t (codes "grpc") || same t (codes "openapi") then task.OtherCall
    else task.FunctionCall)

abbrev pub call_task : Option Value → Task
call_task (Some (text t)) = callee_task t
call_task v = task.OtherCall

abbrev pub keyword_task : Keyword → Members → Task
keyword_task keyword.Call ms = call_task (at (codes "call") ms)
keyword_task (keyword.Of t) ms = t

-- the members of a table, and what else may stand beside them
abbrev pub plain : Bool → Table → Rest → Layout
plain f t r = record { fault = None; table = t; shared = table.Top top.Empty; rest = r; inside = f }

-- a value in which nothing is looked at
abbrev pub closed : Bool → Option FaultKind → Layout
closed f k = record { fault = k; table = table.Top top.Empty; shared = table.Top top.Empty; rest = rest.Any; inside = f }

abbrev pub wrong : Bool → Layout
wrong f = closed f (Some kind.WrongKind)

-- what tasks share
abbrev pub shared_table : Bool → Table
shared_table f = if f then table.Top top.FunctionCommon else table.Top top.Common

abbrev pub task_layout : Bool → Seen → Members → Layout
task_layout f (seen.One w) ms = record { fault = None; table = table.Task (keyword_task w ms); shared = shared_table f; rest = rest.Unknown; inside = f }
task_layout f seen.Nothing ms = wrong f
task_layout f seen.Several ms = wrong f

abbrev pub single : Members → Bool
single no_members = false
single (member k d no_members) = true
single (member k d (member l e ms)) = false

abbrev pub to_layout : Bool → Bool → Bool → Bool → Layout
to_layout f false false false = record { fault = Some kind.Missing; table = table.Part part.To; shared = table.Top top.Empty; rest = rest.Unknown; inside = f }
to_layout f true false false = plain f (table.Part part.To) rest.Unknown
to_layout f false true false = plain f (table.Part part.To) rest.Unknown
to_layout f false false true = plain f (table.Part part.To) rest.Unknown
to_layout f all any one = wrong f

-- `details` is read as `detail`, where that is absent
abbrev pub caught_table : Bool → Table
caught_table detail = if detail then table.Part part.Caught else table.Part part.CaughtDetails

-- how the members of an object are judged, inside a function or not
abbrev pub object_layout : Bool → Object → Members → Layout
object_layout f (object.Of t r) ms = plain f t r
object_layout f (object.Single t r) ms = if single ms then plain f t r else wrong f
object_layout f object.Task ms = task_layout f (seen_in (has (codes "for") ms) seen.Nothing ms) ms
object_layout f object.Function ms = task_layout true (seen_in (has (codes "for") ms) seen.Nothing ms) ms
object_layout f object.To ms = to_layout f (has (codes "all") ms) (has (codes "any") ms) (has (codes "one") ms)
object_layout f object.Caught ms = plain f (caught_table (has (codes "detail") ms)) rest.Unknown

-- what a member of the name may be, by the first row of the name
abbrev pub row_shape : List Row → List ℕ → Option Shape
row_shape [] k = None
row_shape (r ∷ rs) k = if same k r.name then Some r.shape else row_shape rs k

abbrev pub first_shape : Option Shape → Shape → Shape
first_shape (Some s) t = s
first_shape None t = t

abbrev pub shape_at : Layout → List ℕ → Shape
shape_at l k = first_shape (row_shape (rows l.table) k) (first_shape (row_shape (rows l.shared) k) (rest_shape l.rest))
