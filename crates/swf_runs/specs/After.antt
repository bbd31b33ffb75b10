-- What a label needs, and what it changes.
use Rattle.std.specs.Prelude.{◌+◌, ◌&&◌, ◌||◌, ℕ, List, [], ◌∷◌, ◌++◌, Bool, length, map, not, nat_le, Option, Some, None, option_map, option_and_then, if◌then◌else◌}
use Rattle.std.specs.List.{list_any}
use Rattle.swf_value.specs.Value.{Value}
use Rattle.swf_calls.specs.declared.reply.CallReply.{CallReply}
use Rattle.swf_cloudevents.specs.declared.event.Event.{Event}
use Rattle.swf_text.specs.Same.{same}
use Rattle.swf_reader.specs.Reads.{document_of}
use Rattle.swf_validate.specs.Accepts.{faults}
use Rattle.swf_document.specs.declared.document.DocKey.{DocKey}
use Rattle.swf_document.specs.declared.document.Document.{Document}
use Rattle.swf_meaning.specs.declared.label.Label.{Label}
use Rattle.swf_meaning.specs.declared.label.Label.TheVariants.{Load, Start, Event as Told, Reply, Moment, Step}
use Rattle.swf_document.specs.declared.fault.Fault.{Fault}
use Rattle.swf_meaning.specs.Documents.{Loaded, document_at}
use Rattle.swf_runs.specs.Keys.{same_key}
use Rattle.swf_meaning.specs.Offer.{offered_all, takers}
use Rattle.swf_meaning.specs.declared.key.Key.{Key}
use Rattle.swf_meaning.specs.declared.key.Key.TheVariants.{Document as OfDocument, Instance as OfInstance, Event as OfEvent, Activity as OfActivity, Moment as OfMoment}
use Rattle.swf_meaning.specs.Reply.{is_of, is_open as is_open_in, with_reply}
use Rattle.swf_meaning.specs.World.{Instance, World, step_at, new_instance, with_step}

abbrev pub most_documents : ℕ
most_documents = 1000

abbrev pub most_instances : ℕ
most_instances = 10000

abbrev pub is_used : Key → World → Bool
is_used k w = list_any (λ p. same_key k p.0) w.keys

-- the world with one more label, whose key was used at its place
abbrev pub counted : Key → World → World
counted k w = record w { keys = w.keys ++ (k, w.count) ∷ []; count = w.count + 1 }

abbrev pub with_document : World → Value → Document → World
with_document w v d = record (counted (OfDocument d.key) w) { documents = w.documents ++ (record { value = v; document = d }) ∷ [] }

-- a document is added that is new, while there is room
abbrev pub loaded : World → Value → Document → Option World
loaded w v d = if is_used (OfDocument d.key) w || nat_le most_documents (length w.documents) then None else Some (with_document w v d)

abbrev pub if_none : Document → List Fault → Option Document
if_none d [] = Some d
if_none d (f ∷ fs) = None

-- the document of a value that can be loaded: of one that has no faults
abbrev pub accepted : Value → Option Document
accepted v = if_none (document_of v) (faults v)

abbrev pub with_instance : World → Instance → World
with_instance w i = record (counted (OfInstance i.id) w) { instances = w.instances ++ i ∷ [] }

-- an instance is added whose id is new and whose document is loaded, while there is room
abbrev pub started : World → List ℕ → DocKey → Value → Option World
started w id key input = if is_used (OfInstance id) w || nat_le most_instances (length w.instances) then None else option_map (λ d. with_instance w (new_instance id input w.now d)) (document_at key w.documents)

-- a moment that is above the one that was reached
abbrev pub reached : World → ℕ → Option World
reached w moment = if nat_le moment w.now then None else Some (record (counted (OfMoment moment) w) { now = moment })

-- an event is told that is new: every `listen` is offered it
abbrev pub with_event : World → Event → World
with_event w e = record (counted (OfEvent e.source e.id) w) { instances = offered_all e w.instances }

abbrev pub told : World → Event → Option World
told w e = if is_used (OfEvent e.source e.id) w then None else Some (with_event w e)

-- the activity is a call of its instance that awaits its answer
abbrev pub is_open : List ℕ → World → Bool
is_open a w = list_any (λ i. is_of a i.id && is_open_in a i.node) w.instances

-- an instance after an answer came
abbrev pub replied_one : List ℕ → CallReply → Instance → Instance
replied_one a r i = if is_of a i.id then record i { node = with_reply a r i.node } else i

abbrev pub with_answer : World → List ℕ → CallReply → World
with_answer w a r = record (counted (OfActivity a) w) { instances = map (replied_one a r) w.instances }

-- an answer that is new, of an open call
abbrev pub replied : World → List ℕ → CallReply → Option World
replied w a r = if is_used (OfActivity a) w || not (is_open a w) then None else Some (with_answer w a r)

-- the instances after a strand of the one of that id took a step at a moment, where these documents are loaded, and the event that goes
-- out; none where there is none or it cannot
abbrev pub stepped : ℕ → List Loaded → List ℕ → List ℕ → List Instance → Option (List Instance × Option Event)
stepped now ds id strand [] = None
stepped now ds id strand (i ∷ is) =
    if same id i.id
    then option_map (λ m. (with_step i m ∷ is, m.emitted)) (step_at now ds strand i)
    else option_map (λ p. (i ∷ p.0, p.1)) (stepped now ds id strand is)

-- an event that goes out is offered to every `listen`
abbrev pub sent : World → Option Event → World
sent w None = w
sent w (Some e) = record w { instances = offered_all e w.instances; outbox = w.outbox ++ e ∷ [] }

abbrev pub with_instances : World → List Instance × Option Event → World
with_instances w p = sent (record w { instances = p.0; count = w.count + 1 }) p.1

-- the world after a label; none where the label's condition does not hold
abbrev pub after : World → Label → Option World
after w (Load v) = option_and_then (loaded w v) (accepted v)
after w (Start id key input) = started w id key input
after w (Told e) = told w e
after w (Reply a r) = replied w a r
after w (Moment moment) = reached w moment
after w (Step id strand) = option_map (with_instances w) (stepped w.now w.documents id strand w.instances)

-- how many tasks take the event that is told
abbrev pub taken_by : World → Label → ℕ
taken_by w (Told e) = takers e w.instances
taken_by w l = 0
