-- A code for tasks, by which a ghost name tells them apart.
use Rattle.std.specs.Prelude.{◌≡◌}
use Rattle.std.specs.Coded.{Coded, coded_bool, coded_list, coded_ℕ}
use base.Stored.{Gv, gnil, gnum, gcons}
use mathlib.Core.Path.{ap}
use Rattle.swf_document.specs.Code.{head, tail, text_code}
use Rattle.swf_document.specs.PartCodes.{common_code, case_code, callee_code, listen_code, error_ref_code, run_code, loop_code, catch_code}
use Rattle.swf_document.specs.Task.{Tasks, no_tasks, named, Task, task, Kind, call, do_all, emit, for, fork, listen, raise, run, set, switch, try, wait, Handler, no_handler, handler}
use Rattle.swf_document.specs.TemplateCode.{template_code}

abbrev mutual
  code_tasks : Tasks → Gv
  code_tasks no_tasks = gnil
  code_tasks (named n t ts) = gcons (text_code.code n) (gcons (code_task t) (code_tasks ts))

  code_task : Task → Gv
  code_task (task c k) = gcons (common_code.code c) (code_kind k)

  code_kind : Kind → Gv
  code_kind (call c) = gcons (gnum 0) (callee_code.code c)
  code_kind (do_all ts) = gcons (gnum 1) (code_tasks ts)
  code_kind (emit t) = gcons (gnum 2) (template_code.code t)
  code_kind (for l ts) = gcons (gnum 3) (gcons (loop_code.code l) (code_tasks ts))
  code_kind (fork c ts) = gcons (gnum 4) (gcons (coded_bool.code c) (code_tasks ts))
  code_kind (listen s) = gcons (gnum 5) (listen_code.code s)
  code_kind (raise r) = gcons (gnum 6) (error_ref_code.code r)
  code_kind (run s) = gcons (gnum 7) (run_code.code s)
  code_kind (set t) = gcons (gnum 8) (template_code.code t)
  code_kind (switch cs) = gcons (gnum 9) ((coded_list case_code).code cs)
  code_kind (try c ts h) = gcons (gnum 10) (gcons (catch_code.code c) (gcons (code_tasks ts) (code_handler h)))
  code_kind (wait n) = gcons (gnum 11) (gnum n)

  code_handler : Handler → Gv
  code_handler no_handler = gnil
  code_handler (handler ts) = gcons gnil (code_tasks ts)

mutual
  pub code_tasks_inj : (x y : Tasks) → code_tasks x ≡ code_tasks y → x ≡ y
  code_tasks_inj no_tasks no_tasks p = λ i. no_tasks
  code_tasks_inj (named n t ts) (named m u us) p =
      λ i. named (text_code.inj n m (ap head p) i) (code_task_inj t u (ap (λ g. head (tail g)) p) i) (code_tasks_inj ts us (ap (λ g. tail (tail g)) p) i)
  code_tasks_inj x y p = cc

  pub code_task_inj : (x y : Task) → code_task x ≡ code_task y → x ≡ y
  code_task_inj (task c k) (task d l) p = λ i. task (common_code.inj c d (ap head p) i) (code_kind_inj k l (ap tail p) i)

  pub code_kind_inj : (x y : Kind) → code_kind x ≡ code_kind y → x ≡ y
  code_kind_inj (call c) (call d) p = ap call (callee_code.inj c d (ap tail p))
  code_kind_inj (do_all ts) (do_all us) p = ap do_all (code_tasks_inj ts us (ap tail p))
  code_kind_inj (emit t) (emit u) p = ap emit (template_code.inj t u (ap tail p))
  code_kind_inj (for l ts) (for m us) p = λ i. for (loop_code.inj l m (ap (λ g. head (tail g)) p) i) (code_tasks_inj ts us (ap (λ g. tail (tail g)) p) i)
  code_kind_inj (fork c ts) (fork d us) p = λ i. fork (coded_bool.inj c d (ap (λ g. head (tail g)) p) i) (code_tasks_inj ts us (ap (λ g. tail (tail g)) p) i)
  code_kind_inj (listen s) (listen r) p = ap listen (listen_code.inj s r (ap tail p))
  code_kind_inj (raise r) (raise s) p = ap raise (error_ref_code.inj r s (ap tail p))
  code_kind_inj (run s) (run r) p = ap run (run_code.inj s r (ap tail p))
  code_kind_inj (set t) (set u) p = ap set (template_code.inj t u (ap tail p))
  code_kind_inj (switch cs) (switch ds) p = ap switch ((coded_list case_code).inj cs ds (ap tail p))
  code_kind_inj (try c ts h) (try d us k) p =
      λ i. try (catch_code.inj c d (ap (λ g. head (tail g)) p) i) (code_tasks_inj ts us (ap (λ g. head (tail (tail g))) p) i)
      (code_handler_inj h k (ap (λ g. tail (tail (tail g))) p) i)
  code_kind_inj (wait n) (wait m) p = ap wait (coded_ℕ.inj n m (ap tail p))
  code_kind_inj x y p = cc

  pub code_handler_inj : (x y : Handler) → code_handler x ≡ code_handler y → x ≡ y
  code_handler_inj no_handler no_handler p = λ i. no_handler
  code_handler_inj (handler ts) (handler us) p = ap handler (code_tasks_inj ts us (ap tail p))
  code_handler_inj x y p = cc

abbrev pub tasks_code : Coded Tasks
tasks_code = record { code = code_tasks; inj = code_tasks_inj }

abbrev pub task_code : Coded Task
task_code = record { code = code_task; inj = code_task_inj }

abbrev pub kind_code : Coded Kind
kind_code = record { code = code_kind; inj = code_kind_inj }
