-- The parts of a task by name.
use Rattle.std.specs.Prelude.{ℕ, List, [], Bool, Option, Some, None}
use Rattle.swf_document.specs.Task.{Task, task, Tasks, Kind, call, do_all, emit, for, fork, listen, raise, run, set, switch, try, wait, Loop, Catch, Handler}
use Rattle.swf_document.specs.declared.call.Callee.{Callee}
use Rattle.swf_document.specs.declared.call.Callee.TheVariants as callees
use Rattle.swf_document.specs.declared.call.HttpSpec.{HttpSpec}
use Rattle.swf_document.specs.declared.common.Common.{Common}
use Rattle.swf_document.specs.declared.common.Flow.TheVariants as flows
use Rattle.swf_document.specs.declared.document.Document.{Document}
use Rattle.swf_document.specs.declared.event.ListenSpec.{ListenSpec}

abbrev pub common_of : Task → Common
common_of (task c k) = c

abbrev pub kind_of : Task → Kind
kind_of (task c k) = k

abbrev pub place_of : Task → List (List ℕ)
place_of t = (common_of t).place

-- a workflow is a `do` at the empty place, with the document's `input.from` and `output.as`
abbrev pub workflow : Document → Task
workflow d =
    task (record { cond = None; input_from = d.input_from; output_as = d.output_as; export_as = None; flow = flows.Continue; place = [] }) (do_all d.tasks)

-- of a `for`, over what it goes
abbrev pub loop_in : Kind → Option Loop
loop_in (call c) = None
loop_in (do_all ts) = None
loop_in (emit e) = None
loop_in (for l ts) = Some l
loop_in (fork c ts) = None
loop_in (listen l) = None
loop_in (raise e) = None
loop_in (run s) = None
loop_in (set e) = None
loop_in (switch cs) = None
loop_in (try c ts h) = None
loop_in (wait d) = None

-- of a `fork`, whether its branches compete, and these
pub record Branches : Type 0 where
  pub compete : Bool
  pub tasks : Tasks

abbrev pub fork_in : Kind → Option Branches
fork_in (call c) = None
fork_in (do_all ts) = None
fork_in (emit e) = None
fork_in (for l ts) = None
fork_in (fork c ts) = Some (record { compete = c; tasks = ts })
fork_in (listen l) = None
fork_in (raise e) = None
fork_in (run s) = None
fork_in (set e) = None
fork_in (switch cs) = None
fork_in (try c ts h) = None
fork_in (wait d) = None

-- of a `listen`, to what it listens
abbrev pub listen_in : Kind → Option ListenSpec
listen_in (call c) = None
listen_in (do_all ts) = None
listen_in (emit e) = None
listen_in (for l ts) = None
listen_in (fork c ts) = None
listen_in (listen l) = Some l
listen_in (raise e) = None
listen_in (run s) = None
listen_in (set e) = None
listen_in (switch cs) = None
listen_in (try c ts h) = None
listen_in (wait d) = None

-- of a `call: http`, the request that it fills
abbrev pub http_by : Callee → Option HttpSpec
http_by (callees.Http h) = Some h
http_by (callees.Function n e) = None

abbrev pub http_in : Kind → Option HttpSpec
http_in (call c) = http_by c
http_in (do_all ts) = None
http_in (emit e) = None
http_in (for l ts) = None
http_in (fork c ts) = None
http_in (listen l) = None
http_in (raise e) = None
http_in (run s) = None
http_in (set e) = None
http_in (switch cs) = None
http_in (try c ts h) = None
http_in (wait d) = None

-- of a `try`, what it catches, and the list that handles it
pub record Catching : Type 0 where
  pub errors : Catch
  pub handler : Handler

abbrev pub try_in : Kind → Option Catching
try_in (call c) = None
try_in (do_all ts) = None
try_in (emit e) = None
try_in (for l ts) = None
try_in (fork c ts) = None
try_in (listen l) = None
try_in (raise e) = None
try_in (run s) = None
try_in (set e) = None
try_in (switch cs) = None
try_in (try c ts h) = Some (record { errors = c; handler = h })
try_in (wait d) = None
