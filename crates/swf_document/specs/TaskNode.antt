-- The task that a `Task` stands for.
use Rattle.std.specs.Prelude.{List, [], ◌∷◌, Option, Some, None}
use Rattle.swf_document.specs.Task.{Tasks, no_tasks, named, Task, task, Kind, call, do_all, emit, for, fork, listen, raise, run, set, switch, try, wait, Handler, no_handler, handler}
use Rattle.swf_document.specs.declared.tasks.Kind.{Kind as DeclaredKind}
use Rattle.swf_document.specs.declared.tasks.Kind.TheVariants as kinds
use Rattle.swf_document.specs.declared.tasks.Named.{Named}
use Rattle.swf_document.specs.declared.tasks.Task.{Task as DeclaredTask}

abbrev pub handler_of : Option Tasks → Handler
handler_of None = no_handler
handler_of (Some ts) = handler ts

abbrev pub kind_of : DeclaredKind → Kind
kind_of (kinds.Call c) = call c
kind_of (kinds.Do ts) = do_all ts
kind_of (kinds.Emit t) = emit t
kind_of (kinds.For s) = for (record { each = s.each; items = s.items; at = s.at; guard = s.guard }) s.tasks
kind_of (kinds.Fork s) = fork s.compete s.branches
kind_of (kinds.Listen s) = listen s
kind_of (kinds.Raise r) = raise r
kind_of (kinds.Run s) = run s
kind_of (kinds.Set t) = set t
kind_of (kinds.Switch cs) = switch cs
kind_of (kinds.Try s) =
    try (record { errors = s.errors; name = s.name; cond = s.cond; except = s.except; retry = s.retry }) s.tasks (handler_of s.handler)
kind_of (kinds.Wait n) = wait n

abbrev pub task_of : DeclaredTask → Task
task_of t = task t.common (kind_of t.kind)

abbrev pub tasks_of : List Named → Tasks
tasks_of [] = no_tasks
tasks_of (n ∷ ns) = named n.name (task_of n.task) (tasks_of ns)
