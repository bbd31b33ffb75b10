-- The document that a value is (DSL 1.0.0, reference, "Workflow", "Use" and "Task").
use Rattle.std.specs.Prelude.{◌≡◌, ◌+◌, ◌++◌, ℕ, List, [], ◌∷◌, codes, Bool, Option, Some, None, option_map, unwrap_or, is_some, if◌then◌else◌}
use Rattle.std.specs.Fmt.{decimal}
use Rattle.swf_text.specs.Same.{same}
use Rattle.swf_value.specs.Value.{Value, null, list, object, Items, no_items, item, Members, no_members, member}
use Rattle.swf_value.specs.Members.{at, member_at}
use Rattle.swf_document.specs.Task.{Tasks, no_tasks, named, Task, task, Kind, call, do_all, emit, for, fork, listen, raise, run, set, switch, try, wait, Handler, no_handler, handler, Loop, Catch}
use Rattle.swf_document.specs.Template.{constant}
use Rattle.swf_document.specs.TaskNode.{task_of}
use Rattle.swf_document.specs.declared.tasks.Named.{Named}
use Rattle.swf_document.specs.declared.document.Document.{Document}
use Rattle.swf_document.specs.declared.document.NamedError.{NamedError}
use Rattle.swf_document.specs.declared.document.NamedRetry.{NamedRetry}
use Rattle.swf_shapes.specs.declared.layout.Seen.{Seen}
use Rattle.swf_shapes.specs.declared.layout.Seen.TheVariants as seen
use Rattle.swf_shapes.specs.declared.shape.Task.{Task as Keyword}
use Rattle.swf_shapes.specs.declared.shape.Task.TheVariants as keyword
use Rattle.swf_shapes.specs.Faults.{read_faults}
use Rattle.swf_shapes.specs.Layout.{keyword_task, seen_in}
use Rattle.swf_reader.specs.Parts.{part, text_in, flag_at, expression_in, expression_at, template_in, transform_at, common_in, callee_in, raised_in, run_in, listen_in, cases_of, duration_in, errors_in, retry_at, policy_in, error_in, key_in}

-- the task that a keyword makes of an object
abbrev pub task_of_seen : Seen → Members → Keyword
task_of_seen (seen.One w) ms = keyword_task w ms
task_of_seen seen.Nothing ms = keyword.Set
task_of_seen seen.Several ms = keyword.Set

abbrev pub keyword_in : Members → Keyword
keyword_in ms = task_of_seen (seen_in (is_some (at (codes "for") ms)) seen.Nothing ms) ms

-- the name of a variable, or the name that it has where none is given
abbrev pub variable_at : List ℕ → List ℕ → Value → List ℕ
variable_at k usual v = unwrap_or (option_map text_in (member_at k v)) usual

abbrev pub loop_in : Value → Value → Loop
loop_in v w = record {
  each = variable_at (codes "each") (codes "item") v;
  items = expression_in (part (codes "in") v);
  at = variable_at (codes "at") (codes "index") v;
  guard = expression_at (codes "while") w;
}

abbrev pub catch_in : Value → Catch
catch_in v = record {
  errors = errors_in (part (codes "with") (part (codes "errors") v));
  name = variable_at (codes "as") (codes "error") v;
  cond = expression_at (codes "when") v;
  except = expression_at (codes "exceptWhen") v;
  retry = retry_at v;
}

-- what the tasks do that hold no tasks
abbrev pub plain_kind : Keyword → Value → Kind
plain_kind keyword.HttpCall v = call (callee_in v)
plain_kind keyword.FunctionCall v = call (callee_in v)
plain_kind keyword.OtherCall v = call (callee_in v)
plain_kind keyword.Emit v = emit (template_in (part (codes "with") (part (codes "event") (part (codes "emit") v))))
plain_kind keyword.Listen v = listen (listen_in (part (codes "listen") v))
plain_kind keyword.Raise v = raise (raised_in (part (codes "error") (part (codes "raise") v)))
plain_kind keyword.Run v = run (run_in (part (codes "workflow") (part (codes "run") v)))
plain_kind keyword.Switch v = switch (cases_of (part (codes "switch") v))
plain_kind keyword.Wait v = wait (duration_in (part (codes "wait") v))
plain_kind k v = set (template_in (part (codes "set") v))

abbrev pub handler_of : Bool → Tasks → Handler
handler_of there ts = if there then handler ts else no_handler

-- a named task of the code
abbrev pub named_of : Named → List ℕ × Task
named_of n = (n.name, task_of n.task)

-- tasks of the code, with one more where there is one
abbrev pub added : List Named → Option Named → List Named
added ns (Some n) = ns ++ n ∷ []
added ns None = ns

abbrev pub with_task : Option (List ℕ × Task) → Tasks → Tasks
with_task (Some t) ts = named t.0 t.1 ts
with_task None ts = ts

-- a `try` of these tasks, with what the value of its `catch` says, and the tasks that then run
abbrev pub caught_kind : Value → Tasks → Handler → Kind
caught_kind v tried handled = try (catch_in v) tried handled

-- what a task does, with the tasks of its `do`, its branches, those that it tries and those of its handler
abbrev pub kind_with : Keyword → Members → Tasks → Tasks → Tasks → Tasks → Kind
kind_with keyword.Do ms inner branches tried handled = do_all inner
kind_with keyword.For ms inner branches tried handled = for (loop_in (part (codes "for") (object ms)) (object ms)) inner
kind_with keyword.Fork ms inner branches tried handled = fork (flag_at (codes "compete") (part (codes "fork") (object ms))) branches
kind_with keyword.Try ms inner branches tried handled = try (catch_in (part (codes "catch") (object ms))) tried (handler_of (is_some (member_at (codes "do") (part (codes "catch") (object ms)))) handled)
kind_with k ms inner branches tried handled = plain_kind k (object ms)

-- the tasks of a list, each an object of one member, with the places where they stand
abbrev mutual
  pub tasks_in : List (List ℕ) → Value → Tasks
  tasks_in p (list ds) = items_in p 0 ds
  tasks_in p v = no_tasks

  pub items_in : List (List ℕ) → ℕ → Items → Tasks
  items_in p i no_items = no_tasks
  items_in p i (item d ds) = with_task (item_in (p ++ decimal i ∷ []) d) (items_in p (i + 1) ds)

  pub item_in : List (List ℕ) → Value → Option (List ℕ × Task)
  item_in p (object (member k d no_members)) = Some (k, task_in (p ++ k ∷ []) d)
  item_in p v = None

  pub task_in : List (List ℕ) → Value → Task
  task_in p (object ms) = task (common_in p (object ms)) (kind_with (keyword_in ms) ms (tasks_at p (codes "do") ms) (tasks_under p (codes "fork") (codes "branches") ms) (tasks_at p (codes "try") ms) (tasks_under p (codes "catch") (codes "do") ms))
  task_in p v = task (common_in p v) (set (constant null))

  -- the tasks in a member
  pub tasks_at : List (List ℕ) → List ℕ → Members → Tasks
  tasks_at p k no_members = no_tasks
  tasks_at p k (member l d ms) = if same k l then tasks_in (p ++ k ∷ []) d else tasks_at p k ms

  -- the tasks in a member of a member
  pub tasks_under : List (List ℕ) → List ℕ → List ℕ → Members → Tasks
  tasks_under p k j no_members = no_tasks
  tasks_under p k j (member l d ms) = if same k l then tasks_inside (p ++ k ∷ []) j d else tasks_under p k j ms

  pub tasks_inside : List (List ℕ) → List ℕ → Value → Tasks
  tasks_inside p j (object ms) = tasks_at p j ms
  tasks_inside p j v = no_tasks

-- what a task of the keyword does
abbrev pub kind_in : List (List ℕ) → Keyword → Members → Kind
kind_in p k ms = kind_with k ms (tasks_at p (codes "do") ms) (tasks_under p (codes "fork") (codes "branches") ms) (tasks_at p (codes "try") ms) (tasks_under p (codes "catch") (codes "do") ms)

abbrev pub functions_in : List (List ℕ) → Members → Tasks
functions_in p no_members = no_tasks
functions_in p (member k d ms) = named k (task_in (p ++ k ∷ []) d) (functions_in p ms)

abbrev pub functions_of : List (List ℕ) → Value → Tasks
functions_of p (object ms) = functions_in p ms
functions_of p v = no_tasks

abbrev pub errors_named : Members → List NamedError
errors_named no_members = []
errors_named (member k d ms) = (record { name = k; error = error_in d }) ∷ errors_named ms

abbrev pub errors_of : Value → List NamedError
errors_of (object ms) = errors_named ms
errors_of v = []

abbrev pub retries_named : Members → List NamedRetry
retries_named no_members = []
retries_named (member k d ms) = (record { name = k; policy = policy_in d }) ∷ retries_named ms

abbrev pub retries_of : Value → List NamedRetry
retries_of (object ms) = retries_named ms
retries_of v = []

-- the document that a value is, where it has no faults
abbrev pub document_of : Value → Document
document_of v =
    let head = part (codes "document") v in
    let uses = part (codes "use") v in
    record {
      key = key_in (text_in (part (codes "version") head)) head;
      input_from = transform_at (codes "input") (codes "from") v;
      output_as = transform_at (codes "output") (codes "as") v;
      tasks = tasks_in (codes "do" ∷ []) (part (codes "do") v);
      functions = functions_of (codes "use" ∷ codes "functions" ∷ []) (part (codes "functions") uses);
      errors = errors_of (part (codes "errors") uses);
      retries = retries_of (part (codes "retries") uses);
    }

-- the value has no faults, and is this document
abbrev pub Reads : Value → Document → Type 0
Reads v d = (read_faults v ≡ []) × (document_of v ≡ d)
