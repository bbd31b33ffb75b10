-- What preparing a label answers in a world that has room.
use Rattle.std.specs.Prelude.{◌≡◌, List, [], ℕ, length, slice_get, Option, Some, None, Result, Ok, Err}
use Rattle.swf_value.specs.Value.{Value}
use Rattle.swf_calls.specs.declared.reply.CallReply.{CallReply}
use Rattle.swf_cloudevents.specs.declared.event.Event.{Event}
use Rattle.swf_document.specs.declared.document.Document.{Document}
use Rattle.swf_meaning.specs.declared.key.Key.TheVariants as keys
use Rattle.swf_meaning.specs.declared.label.Label.{Label}
use Rattle.swf_meaning.specs.declared.label.Label.TheVariants.{Step}
use Rattle.swf_meaning.specs.Complete.{Stepped}
use Rattle.swf_meaning.specs.Documents.{Loaded}
use Rattle.swf_meaning.specs.Offer.{takers}
use Rattle.swf_meaning.specs.World.{World, Instance, new_instance, step_at, with_step}
use Rattle.swf_runs.specs.After.{after, stepped, taken_by}
use Rattle.swf_world.specs.declared.change.Change.{Change}
use Rattle.swf_world.specs.declared.change.ChangeKind.{ChangeKind}
use Rattle.swf_world.specs.declared.change.ChangeKind.TheVariants as kinds
use Rattle.swf_world.specs.declared.refusal.PrepareFault.{PrepareFault}
use Rattle.swf_world.specs.declared.refusal.PrepareFault.TheVariants.{Refused, OutOfMemory}
use Rattle.swf_world.specs.Changes.{IsReady, Suits, changed}
use Rattle.swf_instances.specs.Offers.{put_at, IsOffer}
use Rattle.swf_instances.specs.declared.offer.Hearing.{Hearing}
use Rattle.swf_world.specs.Refusals.{refusal}

-- a change of that kind, of which no task takes an event that is told
abbrev pub untold : ChangeKind → Change
untold k = record { kind = k; taken = 0 }

-- the change that adds a document which was read from that value
abbrev pub load_of : Value → Document → Change
load_of v d = untold (kinds.Load d.key (keys.Document d.key) (record { value = v; document = d }))

-- the change that adds an instance which has not begun
abbrev pub start_of : List ℕ → Document → Value → ℕ → Change
start_of id d input now = untold (kinds.Start id (keys.Instance id) (new_instance id input now d))

-- the change that answers a call of the instance of that number
abbrev pub reply_of : ℕ → List ℕ → CallReply → Change
reply_of n activity reply = untold (kinds.Reply n activity reply)

-- the event is told to all of these instances
abbrev pub TellsTo : List Instance → Event → ChangeKind → Type 0
TellsTo is e (kinds.Event used heard) = (used ≡ keys.Event e.source e.id) × IsOffer (length is) e is heard.items
TellsTo is e k = ⊥

-- the change that tells an event, and how many tasks take it
pub record IsTelling (is : List Instance) (e : Event) (c : Change) : Type 0 where
  pub tells : TellsTo is e c.kind
  pub taken : c.taken ≡ takers e is

-- those that took the event that goes out, where one does
abbrev pub IsSent : ℕ → Option Event → List Instance → List Hearing → Type 0
IsSent n None is hs = hs ≡ []
IsSent n (Some e) is hs = IsOffer n e is hs

-- a strand of the instance of that number takes its step at a moment, where these documents are loaded, and the others are told the event
-- that goes out
abbrev pub Steps : ℕ → List Loaded → ℕ → List ℕ → List Instance → ChangeKind → Type 0
Steps now ds n strand is (kinds.Step m prepared heard) = (m ≡ n) × IsReady now ds n strand is prepared × IsSent n prepared.emitted is heard.items
Steps now ds n strand is k = ⊥

-- the change of a step
pub record IsStepping (now : ℕ) (ds : List Loaded) (n : ℕ) (strand : List ℕ) (is : List Instance) (c : Change) : Type 0 where
  pub steps : Steps now ds n strand is c.kind
  pub taken : c.taken ≡ 0

-- the instance of that number is the first of its id: a strand's step is the one of the definitions
abbrev pub StepsFirst : World → List ℕ → List ℕ → ℕ → Type 0
StepsFirst w id strand n =
    (i : Instance) (m : Stepped) → slice_get w.instances n ≡ Some i → step_at w.now w.documents strand i ≡ Some m → stepped w.now w.documents id strand w.instances ≡ Some (put_at n (with_step i m) w.instances, m.emitted)

-- what was made, or want of memory
abbrev pub or_memory : {E : Type 0} → Result Change E → Result Change PrepareFault
or_memory (Ok c) = Ok c
or_memory (Err e) = Err OutOfMemory

-- a change that suits the world and leads to the one after the label, and how many tasks take the event that it tells; or the first
-- cause for which there is no such world
abbrev pub Prepares : World → Label → Result Change PrepareFault → Type 0
Prepares w l (Ok c) = Suits w c × (after w l ≡ Some (changed w c)) × (refusal w l ≡ None) × (c.taken ≡ taken_by w l)
Prepares w l (Err (Refused r)) = refusal w l ≡ Some r
Prepares w l (Err OutOfMemory) = Unit {0}

-- a step that a strand of some instance can take now
pub record CanGo (w : World) (l : Label) : Type 0 where
  pub id : List ℕ
  pub strand : List ℕ
  pub step : l ≡ Step id strand
  pub next : World
  pub after : after w l ≡ Some next

-- such a step, and the change that its label makes
pub record IsPreparedStep (w : World) (p : Label × Change) : Type 0 where
  pub goes : CanGo w p.0
  pub prepares : Prepares w p.0 (Ok p.1)
