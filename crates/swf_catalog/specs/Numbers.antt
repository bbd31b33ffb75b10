-- The tasks of a document by number: 0 is the workflow, the tasks of a list follow each other, and the functions come last.
use Rattle.std.specs.Prelude.{ℕ, zero, suc, ◌+◌, List, [], ◌∷◌, ◌++◌, Option, Some, None, option_map, slice_get}
use Rattle.swf_document.specs.Task.{Task, task, Tasks, no_tasks, named, Kind, do_all, for, fork, try, Handler, no_handler, handler}
use Rattle.swf_document.specs.declared.document.Document.{Document}
use Rattle.swf_document.specs.declared.common.Flow.TheVariants as flows
use Rattle.swf_meaning.specs.Next.{task_at}
use Rattle.swf_meaning.specs.Node.{Round, Seq, Each, Try, Catch, Fun, Sub}
use Rattle.swf_meaning.specs.Parts.{workflow}
use Rattle.swf_catalog.specs.declared.row.Begins.{Begins}

-- stands in for a task that there is none
abbrev nothing : Task
nothing = task (record { cond = None; input_from = None; output_as = None; export_as = None; flow = flows.Continue; place = [] }) (do_all no_tasks)

abbrev pub or_nothing : Option Task → Task
or_nothing None = nothing
or_nothing (Some t) = t

-- where the list begins that a task runs in a round
abbrev pub begin_of : Round → Begins → ℕ
begin_of Seq b = b.tasks
begin_of (Each items j) b = b.tasks
begin_of (Try n) b = b.tasks
begin_of (Catch p) b = b.handler
begin_of Fun b = b.tasks
begin_of (Sub d v c) b = b.tasks

-- how many tasks a list has itself
abbrev pub count : Tasks → ℕ
count no_tasks = zero
count (named k t ts) = suc (count ts)

-- how many tasks there are inside those of a list
abbrev mutual
  pub inner : Tasks → ℕ
  inner no_tasks = 0
  inner (named k t ts) = inner_task t + inner ts

  pub inner_task : Task → ℕ
  inner_task (task c k) = inner_kind k

  pub inner_kind : Kind → ℕ
  inner_kind (do_all ts) = inner ts + count ts
  inner_kind (for l ts) = inner ts + count ts
  inner_kind (fork c ts) = inner ts + count ts
  inner_kind (try c ts h) = (inner ts + count ts) + inner_handler h
  inner_kind k = 0

  pub inner_handler : Handler → ℕ
  inner_handler no_handler = 0
  inner_handler (handler ts) = inner ts + count ts

-- where a list begins: behind the tasks inside its own, which are numbered from n on
abbrev pub begin : ℕ → Tasks → ℕ
begin n ts = n + inner ts

-- the number that comes behind such a list
abbrev pub behind : ℕ → Tasks → ℕ
behind n ts = begin n ts + count ts

-- where the list of a handler begins
abbrev pub handler_begin : ℕ → Handler → ℕ
handler_begin n no_handler = n
handler_begin n (handler ts) = begin n ts

-- of a task with one list, or with none
abbrev pub both : ℕ → Begins
both n = record { tasks = n; handler = n }

-- where the lists of a task of this kind begin, which with all inside them are numbered from n on
abbrev pub begins_in : ℕ → Kind → Begins
begins_in n (do_all ts) = both (begin n ts)
begins_in n (for l ts) = both (begin n ts)
begins_in n (fork c ts) = both (begin n ts)
begins_in n (try c ts h) = record { tasks = begin n ts; handler = handler_begin (behind n ts) h }
begins_in n k = both n

-- the same of a task
abbrev pub begins : ℕ → Task → Begins
begins n (task c k) = begins_in n k

-- the same of each task of a list
abbrev pub begins_of : ℕ → Tasks → List Begins
begins_of n no_tasks = []
begins_of n (named k t ts) = begins n t ∷ begins_of (n + inner_task t) ts

-- a task, and where its lists begin
pub record Entry : Type 0 where
  pub task : Task
  pub begins : Begins

-- the tasks of a list from a place on, with where the lists of each begin
abbrev pub own : Tasks → ℕ → List Begins → List Entry
own ts i [] = []
own ts i (b ∷ bs) = (record { task = or_nothing (task_at ts i); begins = b }) ∷ own ts (i + 1) bs

-- the tasks of a list behind those inside them
abbrev pub with_own : ℕ → Tasks → List Entry → List Entry
with_own n ts es = es ++ own ts 0 (begins_of n ts)

-- the tasks inside those of a list, from n on: of each list those inside its own, and then its own
abbrev mutual
  pub inside : ℕ → Tasks → List Entry
  inside n no_tasks = []
  inside n (named k t ts) = inside_task n t ++ inside (n + inner_task t) ts

  pub inside_task : ℕ → Task → List Entry
  inside_task n (task c k) = inside_kind n k

  pub inside_kind : ℕ → Kind → List Entry
  inside_kind n (do_all ts) = with_own n ts (inside n ts)
  inside_kind n (for l ts) = with_own n ts (inside n ts)
  inside_kind n (fork c ts) = with_own n ts (inside n ts)
  inside_kind n (try c ts h) = with_own n ts (inside n ts) ++ inside_handler (behind n ts) h
  inside_kind n k = []

  pub inside_handler : ℕ → Handler → List Entry
  inside_handler n no_handler = []
  inside_handler n (handler ts) = with_own n ts (inside n ts)

-- all tasks of a list
abbrev pub all : ℕ → Tasks → List Entry
all n ts = with_own n ts (inside n ts)

-- where the functions of a document begin: behind its tasks
abbrev pub functions_begin : Document → ℕ
functions_begin d = begin (behind 1 d.tasks) d.functions

-- the tasks of lists: those of the workflow, and then the functions
abbrev pub listed_entries : Document → List Entry
listed_entries d = all 1 d.tasks ++ all (behind 1 d.tasks) d.functions

-- all tasks of a document in the order of their numbers
abbrev pub entries : Document → List Entry
entries d = (record { task = workflow d; begins = both (begin 1 d.tasks) }) ∷ listed_entries d

-- the task of a number, where there is one
abbrev pub numbered : Document → ℕ → Option Task
numbered d n = option_map (λ e. e.task) (slice_get (entries d) n)
