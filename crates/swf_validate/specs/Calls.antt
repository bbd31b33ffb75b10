-- Which functions of a document call which.
use Rattle.std.specs.Prelude.{◌∷◌, [], ◌++◌, ℕ, List, Option, Some, None}
use Rattle.swf_document.specs.Task.{Tasks, no_tasks, named, Task, task, Kind, call, do_all, for, fork, try, Handler, no_handler, handler}
use Rattle.swf_document.specs.declared.call.Callee.{Callee}
use Rattle.swf_document.specs.declared.call.Callee.TheVariants as callees
use Rattle.swf_scope.specs.Names.{Places}

abbrev pub one_or_none : Option ℕ → List ℕ
one_or_none None = []
one_or_none (Some i) = i ∷ []

abbrev pub called_function : Places → Callee → List ℕ
called_function functions (callees.Http h) = []
called_function functions (callees.Function n w) = one_or_none (functions n)

-- the functions that a task calls, at any depth, by their positions
abbrev mutual
  pub called_in_tasks : Places → Tasks → List ℕ
  called_in_tasks functions no_tasks = []
  called_in_tasks functions (named n t ts) = called_in functions t ++ called_in_tasks functions ts

  pub called_in : Places → Task → List ℕ
  called_in functions (task c k) = called_in_kind functions k

  pub called_in_kind : Places → Kind → List ℕ
  called_in_kind functions (call c) = called_function functions c
  called_in_kind functions (do_all ts) = called_in_tasks functions ts
  called_in_kind functions (for l ts) = called_in_tasks functions ts
  called_in_kind functions (fork c ts) = called_in_tasks functions ts
  called_in_kind functions (try c ts h) = called_in_tasks functions ts ++ called_in_handler functions h
  called_in_kind functions k = []

  pub called_in_handler : Places → Handler → List ℕ
  called_in_handler functions no_handler = []
  called_in_handler functions (handler ts) = called_in_tasks functions ts

-- for each function the functions that it calls
abbrev pub calls_of : Places → Tasks → List (List ℕ)
calls_of functions no_tasks = []
calls_of functions (named n t ts) = called_in functions t ∷ calls_of functions ts
