-- What a step leaves of an instance, and an offer of the event that goes out.
use Rattle.std.specs.Prelude.{◌≡◌, List, Option, Some, None, Result}
use Rattle.swf_cloudevents.specs.declared.event.Event.{Event}
use Rattle.swf_document.specs.declared.error.Problem.{Problem}
use Rattle.swf_meaning.specs.Complete.{Stepped}
use Rattle.swf_meaning.specs.Listen.{heard}
use Rattle.swf_meaning.specs.Line.{Line}
use Rattle.swf_meaning.specs.Node.{Running}
use Rattle.swf_meaning.specs.Offer.{offered_one}
use Rattle.swf_meaning.specs.World.{Instance, with_step}
use Rattle.swf_meaning.specs.declared.heard.Heard.{Heard}
use Rattle.swf_scene.specs.Halts.{Makes}
use Rattle.swf_scene.specs.declared.halt.Halt.{Halt}
use Rattle.swf_stack.specs.declared.made.Made.{Made}
use Rattle.swf_tasks.specs.declared.take.StepResult.{StepResult}
use Rattle.swf_tasks.specs.declared.take.StepResult.TheVariants.{Quiet, Emitted}

-- the instance after a step, and the event that goes out
abbrev pub taken : Instance → Stepped → Instance × Option Event
taken i m = (with_step i m, m.emitted)

abbrev pub emitted_of : StepResult → Option Event
emitted_of Quiet = None
emitted_of (Emitted e) = Some e

-- an instance that is offered the event which goes out, where one does
abbrev pub offered_own : Option Event → Instance → Instance
offered_own None i = i
offered_own (Some e) i = offered_one e i

-- the step of a task that heard all
abbrev pub IsListened : Line → Running → List Heard → Result Made Halt → Type 0
IsListened l r hs g = (m : Result Stepped Problem) → heard l r hs ≡ Some m → Makes l m g
