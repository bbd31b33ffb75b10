-- Enter: what becomes of a task that has not begun (DSL, "Data flow", "Input"; DSL reference, "Task").
use Rattle.std.specs.Prelude.{◌+◌, zero, Bool, true, false, Option, Some, None, Result, Ok}
use Rattle.swf_expr.specs.Expr.{Tree}
use Rattle.swf_value.specs.Value.{Value}
use Rattle.swf_document.specs.Task.{Task, Kind, call, do_all, emit, for, fork, listen, raise, run, set, switch, try, wait}
use Rattle.swf_document.specs.Template.{Template}
use Rattle.swf_document.specs.declared.call.Callee.{Callee}
use Rattle.swf_document.specs.declared.call.Callee.TheVariants as callees
use Rattle.swf_document.specs.declared.common.Flow.TheVariants as flows
use Rattle.swf_document.specs.declared.error.Problem.{Problem}
use Rattle.swf_templates.specs.Fill.{fill}
use Rattle.swf_meaning.specs.Call.{calling_http}
use Rattle.swf_meaning.specs.Complete.{Stepped, becomes, asked, input_of, complete}
use Rattle.swf_meaning.specs.Emit.{emitting}
use Rattle.swf_meaning.specs.For.{looping}
use Rattle.swf_meaning.specs.Fork.{forking}
use Rattle.swf_meaning.specs.Function.{calling, running}
use Rattle.swf_meaning.specs.Line.{Line, Site, within}
use Rattle.swf_meaning.specs.Listen.{listening}
use Rattle.swf_meaning.specs.Lists.{comes_to}
use Rattle.swf_meaning.specs.Node.{Live, Done, Sleep, Seq, Try, Running}
use Rattle.swf_meaning.specs.Parts.{common_of, kind_of}
use Rattle.swf_meaning.specs.Raise.{raising}
use Rattle.swf_meaning.specs.Rule.{◌>>=◌, value_of}
use Rattle.swf_meaning.specs.Switch.{switched}

-- a `set` gives what its template is filled to
abbrev pub setting : Line → Running → Template → Result Stepped Problem
setting l r e = do
  v ← value_of r.task (fill e (within l r) r.input)
  complete l r v

abbrev pub called : Site → Line → Running → Callee → Result Stepped Problem
called s l r (callees.Http h) = calling_http s l r h
called s l r (callees.Function n e) = calling l r n e

-- a task on its transformed input
abbrev pub begun : Site → Line → Running → Kind → Result Stepped Problem
begun s l r (call c) = called s l r c
begun s l r (do_all ts) = comes_to l r Seq zero r.input
begun s l r (emit e) = emitting s l r e
begun s l r (for spec ts) = looping l r spec
begun s l r (fork c ts) = forking s l r ts
begun s l r (listen spec) = listening l r spec
begun s l r (raise e) = raising l r e
begun s l r (run spec) = running s l r spec
begun s l r (set e) = setting l r e
begun s l r (switch cs) = switched l r cs
begun s l r (try c ts h) = comes_to l r (Try zero) zero r.input
begun s l r (wait d) = Ok (becomes l (Live r (Sleep (s.now + d))))

-- a task whose `if` is not true is done with its raw input
abbrev pub begun_if : Site → Line → Running → Bool → Result Stepped Problem
begun_if s l r true = begun s l r (kind_of r.task)
begun_if s l r false = Ok (becomes l (Done r.raw flows.Continue))

abbrev pub guarded : Site → Line → Running → Option Tree → Result Stepped Problem
guarded s l r None = begun s l r (kind_of r.task)
guarded s l r (Some e) = do
  b ← asked r.task (within l r) r.input e
  begun_if s l r b

-- Enter: `input.from` gives the transformed input, and `if` is asked on it
abbrev pub enter : Site → Line → Task → Value → Result Stepped Problem
enter s l t v = do
  u ← input_of l t v
  guarded s l (record { task = t; raw = v; input = u }) (common_of t).cond
