-- `emit` (DSL reference, "Emit"; CloudEvents 1.0.2, "Context Attributes").
use Rattle.std.specs.Prelude.{ℕ, List, ◌∷◌, ◌++◌, codes, decimal, Some, Result, Ok, Err}
use Rattle.swf_value.specs.Members.{put}
use Rattle.swf_value.specs.Value.{Value, text, object}
use Rattle.swf_cloudevents.specs.Event.{event_of}
use Rattle.swf_cloudevents.specs.Faults.{Fault}
use Rattle.swf_cloudevents.specs.declared.event.Event.{Event}
use Rattle.swf_document.specs.Template.{Template}
use Rattle.swf_document.specs.declared.error.ErrorKind.TheVariants as kinds
use Rattle.swf_document.specs.declared.error.Problem.{Problem}
use Rattle.swf_templates.specs.Fill.{fill}
use Rattle.swf_meaning.specs.Complete.{Stepped, step_of, complete}
use Rattle.swf_meaning.specs.Line.{Line, Site, within}
use Rattle.swf_meaning.specs.Node.{Running}
use Rattle.swf_meaning.specs.Rule.{◌>>=◌, fails, value_of}

-- the id of the instance, `/` and the number of its next event
abbrev pub next_id : Site → Line → List ℕ
next_id s l = l.id ++ 47 ∷ decimal s.number

-- with the attributes that the engine gives
abbrev pub with_own : Site → Line → Value → Value
with_own s l (object ms) = object (put (codes "id") (text (next_id s l)) (put (codes "specversion") (text (codes "1.0")) ms))
with_own s l v = v

-- the event goes out whatever becomes of the task, and uses a number
abbrev pub sending : Event → Stepped → Stepped
sending e m = record m { used = 1; emitted = Some e }

abbrev pub emits : Line → Running → Result Event Fault → Result Stepped Problem
emits l r (Ok e) = Ok (sending e (step_of l (complete l r r.input)))
emits l r (Err f) = fails r.task kinds.Validation (codes "bad event")

-- an event of the attributes that the template gives
abbrev pub emitting : Site → Line → Running → Template → Result Stepped Problem
emitting s l r e = do
  v ← value_of r.task (fill e (within l r) r.input)
  emits l r (event_of (with_own s l v))
