-- What a prepared change asks of the world that it is made for, and the world that it makes.
use Rattle.std.specs.Prelude.{◌≡◌, ◌+◌, ◌<◌, ◌≤◌, ℕ, List, [], ◌++◌, false, Option, Some, option_map, option_to_list, slice_get}
use Rattle.std.specs.List.{AllByRecursion}
use Rattle.swf_cloudevents.specs.declared.event.Event.{Event}
use Rattle.swf_document.specs.declared.document.DocKey.{DocKey}
use Rattle.swf_meaning.specs.declared.key.Key.{Key}
use Rattle.swf_meaning.specs.declared.key.Key.TheVariants as keys
use Rattle.swf_meaning.specs.Complete.{Stepped}
use Rattle.swf_meaning.specs.Documents.{Loaded as WorldLoaded}
use Rattle.swf_meaning.specs.Wake.{waits}
use Rattle.swf_meaning.specs.World.{World, Instance, step_at, with_step}
use Rattle.swf_runs.specs.After.{is_used, counted, with_answer, with_document, with_instance}
use Rattle.swf_tasks.specs.Prepares.{applied, Fits}
use Rattle.swf_tasks.specs.Taken.{offered_own}
use Rattle.swf_tasks.specs.declared.prepared.Prepared.{Prepared}
use Rattle.swf_world.specs.declared.change.Change.{Change}
use Rattle.swf_world.specs.declared.change.ChangeKind.{ChangeKind}
use Rattle.swf_world.specs.declared.change.ChangeKind.TheVariants as kinds
use Rattle.swf_instances.specs.declared.offer.Hearing.{Hearing}
use Rattle.swf_instances.specs.Takes.{take_at}
use Rattle.swf_catalog.specs.declared.documents.Loaded.{Loaded}
use Rattle.swf_instances.specs.Offers.{put_all, IsHeardFrom}
use Rattle.swf_instances.specs.Replies.{IsOpenAt}

-- a document under its own key, which was not used
pub record SuitsLoad (w : World) (key : DocKey) (used : Key) (loaded : Loaded) : Type 0 where
  pub named : key ≡ loaded.document.key
  pub used_is : used ≡ keys.Document loaded.document.key
  pub new : is_used (keys.Document loaded.document.key) w ≡ false

-- an instance under its own id, which was not used, and that does not wait
pub record SuitsStart (w : World) (id : List ℕ) (used : Key) (instance : Instance) : Type 0 where
  pub placed : id ≡ instance.id
  pub used_is : used ≡ keys.Instance id
  pub new : is_used (keys.Instance id) w ≡ false
  pub awake : waits instance.node ≡ []

-- an event's key, which was not used, and instances that took the event
pub record SuitsEvent (w : World) (used : Key) (heard : List Hearing) : Type 0 where
  pub source : List ℕ
  pub id : List ℕ
  pub used_is : used ≡ keys.Event source id
  pub new : is_used used w ≡ false
  pub from : AllByRecursion (IsHeardFrom w.instances) heard

-- an activity's key, which was not used, and the number of the instance in which the activity is open
pub record SuitsReply (w : World) (n : ℕ) (activity : List ℕ) : Type 0 where
  pub new : is_used (keys.Activity activity) w ≡ false
  pub awaits : IsOpenAt activity w.instances n

-- a moment above the one that was reached, and no later than the last
pub record SuitsMoment (w : World) (moment : ℕ) : Type 0 where
  pub later : w.now < moment
  pub within : moment ≤ 4503599627370495

-- an instance after a step, offered the event that goes out, and that event
abbrev pub after_step : Instance → Stepped → Instance × Option Event
after_step i m = (offered_own m.emitted (with_step i m), m.emitted)

-- the same after a strand's step at a moment, where these documents are loaded; none where it can take none
abbrev pub stepped_one : ℕ → List WorldLoaded → List ℕ → Instance → Option (Instance × Option Event)
stepped_one now ds strand i = option_map (after_step i) (step_at now ds strand i)

-- what was prepared for the instance of that number is a strand's step, with the event that goes out
pub record IsReady (now : ℕ) (ds : List WorldLoaded) (n : ℕ) (strand : List ℕ) (is : List Instance) (prepared : Prepared) : Type 0 where
  pub instance : Instance
  pub there : slice_get is n ≡ Some instance
  pub fits : Fits prepared instance
  pub stepped : stepped_one now ds strand instance ≡ Some (applied prepared instance, prepared.emitted)

-- a strand of the instance of that number can take this step, and these took the event that goes out; it is not one of them
pub record SuitsStep (w : World) (n : ℕ) (prepared : Prepared) (heard : List Hearing) : Type 0 where
  pub strand : List ℕ
  pub ready : IsReady w.now w.documents n strand w.instances prepared
  pub apart : slice_get (put_all heard w.instances) n ≡ slice_get w.instances n
  pub from : AllByRecursion (IsHeardFrom w.instances) heard

-- an event was told
abbrev pub with_heard : World → Key → List Hearing → World
with_heard w used heard = record (counted used w) { instances = put_all heard w.instances }

-- a moment was reached
abbrev pub with_moment : World → ℕ → World
with_moment w moment = record (counted (keys.Moment moment) w) { now = moment }

-- an instance took its step, and the event went out
abbrev pub with_stepped : World → ℕ → Prepared → List Hearing → World
with_stepped w n prepared heard = record w { instances = take_at n prepared (put_all heard w.instances); outbox = w.outbox ++ option_to_list prepared.emitted; count = w.count + 1 }

abbrev pub suits : World → ChangeKind → Type 0
suits w (kinds.Load key used loaded) = SuitsLoad w key used loaded
suits w (kinds.Start id used instance) = SuitsStart w id used instance
suits w (kinds.Event used heard) = SuitsEvent w used heard.items
suits w (kinds.Reply n activity reply) = SuitsReply w n activity
suits w (kinds.Moment moment) = SuitsMoment w moment
suits w (kinds.Step n prepared heard) = SuitsStep w n prepared heard.items

abbrev pub changed_by : World → ChangeKind → World
changed_by w (kinds.Load key used loaded) = with_document w loaded.value loaded.document
changed_by w (kinds.Start id used instance) = with_instance w instance
changed_by w (kinds.Event used heard) = with_heard w used heard.items
changed_by w (kinds.Reply n activity reply) = with_answer w activity reply
changed_by w (kinds.Moment moment) = with_moment w moment
changed_by w (kinds.Step n prepared heard) = with_stepped w n prepared heard.items

-- the change was made for a world in this state
abbrev pub Suits : World → Change → Type 0
Suits w c = suits w c.kind

-- the world after the change
abbrev pub changed : World → Change → World
changed w c = changed_by w c.kind
