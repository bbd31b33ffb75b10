-- The parts of a task.
use Rattle.std.specs.Prelude.{◌≡◌, List, slice_get, Option, Some, None}
use Rattle.swf_evaluation.specs.declared.vars.Variable.{Variable}
use Rattle.swf_document.specs.Task.{Task, Tasks, no_tasks, Kind, call, do_all, emit, for, fork, listen, raise, run, set, switch, try, wait, Loop, Catch}
use Rattle.swf_document.specs.TaskNode.{task_of, handler_of}
use Rattle.swf_document.specs.declared.tasks.ForSpec.{ForSpec}
use Rattle.swf_document.specs.declared.tasks.TrySpec.{TrySpec}
use Rattle.swf_meaning.specs.Around.{iteration_variables}
use Rattle.swf_meaning.specs.Parts.{workflow}
use Rattle.swf_catalog.specs.declared.round.Iteration.{Iteration}
use Rattle.swf_catalog.specs.declared.parts.Parts.{Parts}
use Rattle.swf_catalog.specs.declared.parts.Parts.TheVariants as parts
use Rattle.swf_catalog.specs.declared.parts.Work.{Work}
use Rattle.swf_catalog.specs.declared.parts.Work.TheVariants as works

abbrev pub parts_task : Parts → Task
parts_task (parts.Workflow d) = workflow d.now
parts_task (parts.Listed t) = task_of t.now

abbrev pub loop_of : ForSpec → Loop
loop_of s = record { each = s.each; items = s.items; at = s.at; guard = s.guard }

abbrev pub catch_of : TrySpec → Catch
catch_of s = record { errors = s.errors; name = s.name; cond = s.cond; except = s.except; retry = s.retry }

-- what a task of this kind does
abbrev pub work_kind : Work → Kind → Type 0
work_kind (works.Call c) k = k ≡ call c.now
work_kind (works.Do ts) k = k ≡ do_all ts.now
work_kind (works.Emit t) k = k ≡ emit t.now
work_kind (works.For s) k = k ≡ for (loop_of s.now) s.now.tasks
work_kind (works.Fork f) k = k ≡ fork f.now.compete f.now.branches
work_kind (works.Listen l) k = k ≡ listen l.now
work_kind (works.Raise r) k = k ≡ raise r.now
work_kind (works.Run s) k = k ≡ run s.now
work_kind (works.Set t) k = k ≡ set t.now
work_kind (works.Switch cs) k = k ≡ switch cs.now
work_kind (works.Try s) k = k ≡ try (catch_of s.now) s.now.tasks (handler_of s.now.handler)
work_kind (works.Wait d) k = k ≡ wait d

abbrev pub listed : Option Tasks → Tasks
listed None = no_tasks
listed (Some ts) = ts

-- the variables of an iteration
abbrev pub loop_variables : ForSpec → Iteration → List Variable
loop_variables s t = iteration_variables (loop_of s) t.number (slice_get t.items t.number)
