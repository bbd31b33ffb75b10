-- How many tasks there are: each branch, each task of a loop, of a `try` and of a handler counts.
use Rattle.std.specs.Prelude.{◌+◌, ℕ}
use Rattle.swf_document.specs.Task.{Tasks, no_tasks, named, Task, task, Kind, do_all, for, fork, try, Handler, no_handler, handler}

abbrev mutual
  pub count_tasks : Tasks → ℕ
  count_tasks no_tasks = 0
  count_tasks (named n t ts) = count_task t + count_tasks ts

  pub count_task : Task → ℕ
  count_task (task c k) = 1 + count_kind k

  pub count_kind : Kind → ℕ
  count_kind (do_all ts) = count_tasks ts
  count_kind (for l ts) = count_tasks ts
  count_kind (fork c ts) = count_tasks ts
  count_kind (try c ts h) = count_tasks ts + count_handler h
  count_kind k = 0

  pub count_handler : Handler → ℕ
  count_handler no_handler = 0
  count_handler (handler ts) = count_tasks ts
