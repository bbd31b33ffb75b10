-- What holds of reading and writing events together.
use Rattle.std.specs.Prelude.{◌≡◌, ◌≤◌, Ok}
use Rattle.swf_value.specs.Value.{Value, IsLevel, depth}
use Rattle.swf_cloudevents.specs.Event.{event_of, event_value}
use Rattle.swf_cloudevents.specs.declared.event.Event.{Event}

-- an event that was read from a value whose members ascend is read again from what it is written as
abbrev pub ReadsBack : Type 0
ReadsBack = (v : Value) (e : Event) → IsLevel v → event_of v ≡ Ok e → event_of (event_value e) ≡ Ok e

-- what it is written as nests no deeper than the value that it was read from
abbrev pub NestsNoDeeper : Type 0
NestsNoDeeper = (v : Value) (e : Event) → event_of v ≡ Ok e → depth (event_value e) ≤ depth v

-- no two events that were read are written as one value
abbrev pub TellsApart : Type 0
TellsApart = (v w : Value) (e f : Event) → IsLevel v → IsLevel w → event_of v ≡ Ok e → event_of w ≡ Ok f → event_value e ≡ event_value f → e ≡ f

abbrev pub EventLaws : Type 0
EventLaws = ReadsBack × NestsNoDeeper × TellsApart
