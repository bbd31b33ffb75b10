-- Which value is which event (CloudEvents 1.0.2, "Context Attributes" and "Event Data"; JSON Event Format 1.0.2, sections 2 and 3).
use Rattle.std.specs.Prelude.{ℕ, List, [], ◌∷◌, Bool, false, not, codes, Option, Some, None, Result, Ok, Err, if◌then◌else◌}
use Rattle.std.specs.List.{list_any}
use Rattle.swf_text.specs.Same.{same}
use Rattle.swf_value.specs.Members.{at, put}
use Rattle.swf_value.specs.Value.{Value, null, text, object, Members, no_members, member}
use Rattle.swf_cloudevents.specs.Faults.{Fault, attribute, faults}
use Rattle.swf_cloudevents.specs.declared.event.Event.{Event}
use Rattle.swf_cloudevents.specs.declared.event.Payload.{Payload}
use Rattle.swf_cloudevents.specs.declared.event.Payload.TheVariants.{Absent, Value as Given, Base64}
use Rattle.swf_cloudevents.specs.declared.fault.FaultKind.TheVariants.{WrongKind}

-- the members that have a place of their own in an event
abbrev pub apart : List (List ℕ)
apart = codes "data" ∷ codes "data_base64" ∷ codes "id" ∷ codes "source" ∷ codes "specversion" ∷ codes "type" ∷ []

abbrev pub is_apart : List ℕ → Bool
is_apart k = list_any (same k) apart

-- a member that is there, as one that is null is not, and has no place of its own
abbrev pub is_other : List ℕ → Value → Bool
is_other k null = false
is_other k v = not (is_apart k)

-- the other attributes
abbrev pub others : Members → Members
others no_members = no_members
others (member k v ms) = if is_other k v then member k v (others ms) else others ms

-- the characters of a text
abbrev pub text_in : Option Value → List ℕ
text_in (Some (text t)) = t
text_in v = []

-- data as a value, else as base64
abbrev pub payload_of : Option Value → Option Value → Payload
payload_of (Some v) b = Given v
payload_of None (Some (text t)) = Base64 t
payload_of None b = Absent

-- the event of members that have no fault
abbrev pub event_in : Members → Event
event_in ms =
    record {
      id = text_in (attribute (codes "id") ms);
      source = text_in (attribute (codes "source") ms);
      kind = text_in (attribute (codes "type") ms);
      attributes = others ms;
      payload = payload_of (at (codes "data") ms) (attribute (codes "data_base64") ms);
    }

abbrev pub unless_faulty : Event → List Fault → Result Event Fault
unless_faulty e [] = Ok e
unless_faulty e (f ∷ fs) = Err f

-- the event that a value is, or its first fault
abbrev pub event_of : Value → Result Event Fault
event_of (object ms) = unless_faulty (event_in ms) (faults ms)
event_of v = Err ([], WrongKind)

abbrev pub with_payload : Payload → Members → Members
with_payload Absent ms = ms
with_payload (Given v) ms = put (codes "data") v ms
with_payload (Base64 t) ms = put (codes "data_base64") (text t) ms

-- the members that an event is written as
abbrev pub members_of : Event → Members
members_of e =
    put (codes "id") (text e.id) (put (codes "source") (text e.source) (put (codes "specversion") (text (codes "1.0")) (put (codes "type") (text e.kind)
    (with_payload e.payload e.attributes))))

-- the value that an event is written as
abbrev pub event_value : Event → Value
event_value e = object (members_of e)
