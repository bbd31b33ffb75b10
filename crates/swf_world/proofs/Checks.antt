-- What is looked up tells why a label is refused, and what a change has to be.
use Rattle.std.proofs.Common.{◌≡◌, ◌∙◌, ap, sym, refl, subst, cond, ℕ, ◌+◌, ◌<◌, ◌≤◌, ◌≢◌, ◌||◌, List, [], ◌∷◌, ◌++◌, length, nat_le, not, Bool, true, false, is_some, Option, Some, None, option_map, option_and_then, option_to_list, Result, Ok, Err, IfOk, slice_get, position, arith, append-nil}
use Rattle.std.proofs.lemmas.Bool.{le-leb, leb-false, lt-leb}
use Rattle.std.specs.List.{AllByRecursion}
use Rattle.std.proofs.lemmas.Option.{same_Some}
use Rattle.swf_calls.specs.declared.reply.CallReply.{CallReply}
use Rattle.swf_value.specs.Value.{Value}
use Rattle.swf_text.specs.Same.{same}
use Rattle.swf_cloudevents.specs.declared.event.Event.{Event}
use Rattle.swf_document.specs.declared.document.DocKey.{DocKey}
use Rattle.swf_document.specs.declared.document.Document.{Document}
use Rattle.swf_document.specs.declared.fault.Fault.{Fault}
use Rattle.swf_meaning.specs.declared.key.Key.TheVariants as keys
use Rattle.swf_meaning.specs.declared.label.Label.{Label}
use Rattle.swf_meaning.specs.declared.label.Label.TheVariants.{Load, Start, Event as Told, Reply, Moment, Step}
use Rattle.swf_meaning.specs.Complete.{Stepped}
use Rattle.swf_meaning.specs.Offer.{offered_all}
use Rattle.swf_meaning.specs.World.{World, Instance, new_instance, step_at, with_step}
use Rattle.swf_meaning.specs.Answer.{instance_at}
use Rattle.swf_meaning.specs.Strands.{can_go}
use Rattle.swf_meaning.specs.Documents.{document_at}
use Rattle.swf_reader.specs.Reads.{document_of}
use Rattle.swf_validate.specs.Accepts.{faults}
use Rattle.swf_runs.specs.After.{after, if_none, loaded, accepted, is_open, is_used, counted, most_documents, most_instances, with_answer, with_document, with_instance, with_event, with_instances, sent, taken_by}
use Rattle.swf_tasks.specs.Prepares.{applied}
use Rattle.swf_tasks.specs.Taken.{offered_own}
use Rattle.swf_tasks.specs.declared.prepared.Prepared.{Prepared}
use Rattle.swf_world.specs.declared.change.Change.{Change}
use Rattle.swf_world.specs.declared.change.ChangeKind.{ChangeKind}
use Rattle.swf_world.specs.declared.change.ChangeKind.TheVariants as kinds
use Rattle.swf_instances.specs.declared.offer.Hearing.{Hearing}
use Rattle.swf_world.specs.declared.refusal.Refusal.{Refusal}
use Rattle.swf_world.specs.declared.refusal.Refusal.TheVariants.{Refused as ForFaults, Stale, Full, Past, NotEnabled}
use Rattle.swf_world.specs.declared.refusal.PrepareFault.{PrepareFault}
use Rattle.swf_world.specs.declared.refusal.PrepareFault.TheVariants.{Refused, OutOfMemory}
use Rattle.swf_registry.specs.UsedKey.{used_at}
use Rattle.swf_registry.proofs.Lookups.{used_some}
use Rattle.swf_instances.proofs.Lookups.{instance_numbered}
use Rattle.swf_instances.specs.Offers.{put_at, put_all, IsHeardFrom}
use Rattle.swf_instances.specs.Replies.{IsOpenAt}
use Rattle.swf_world.specs.Refusals.{refusal, refusal_of_load, refusal_of_reply, refusal_of_start, refusal_of_moment, refusal_of_step, duplicate, cause}
use Rattle.swf_world.specs.Changes.{IsReady, Suits, SuitsStep, suits, changed, changed_by, after_step, with_moment, with_stepped}
use Rattle.swf_world.specs.Prepares.{Prepares, IsSent, IsTelling, IsStepping, Steps, StepsFirst, TellsTo, load_of, reply_of, start_of, untold, or_memory}
use Rattle.swf_world.proofs.Lookups.{stepped_there}
use Rattle.swf_instances.proofs.TakeLemmas.{take_put}
use Rattle.swf_instances.proofs.OfferLemmas.{offered_apart, offered_past, offered_with}
use Rattle.swf_world.proofs.RefusalLaws.{refused_nowhere}

-- why a start of a new id is refused, by the document that is found
pub start_refused : (w u : World) (id : List ℕ) (key : DocKey) (o : Option Document) → w ≡ u → used_at (keys.Instance id) w.keys ≡ None → document_at key w.documents ≡ o →
    refusal_of_start w o ≡ duplicate (used_at (keys.Instance id) u.keys) (refusal_of_start u (document_at key u.documents))
start_refused w u id key o same new found =
    sym (ap (λ k. duplicate k (refusal_of_start w (document_at key w.documents))) new ∙ ap (refusal_of_start w) found)
    ∙ ap (λ w. duplicate (used_at (keys.Instance id) w.keys) (refusal_of_start w (document_at key w.documents))) same

pub too_many : (w : World) (d : Document) → most_instances ≤ length w.instances → refusal_of_start w (Some d) ≡ Some Full
too_many w d e = ap (λ b. cause b Full None) (le-leb most_instances (length w.instances) e)

pub not_too_many : (w : World) (d : Document) → length w.instances < most_instances → refusal_of_start w (Some d) ≡ None
not_too_many w d e = ap (λ b. cause b Full None) (lt-leb most_instances (length w.instances) e)

-- why a step of the instance of that number is refused
pub step_refusal : (w : World) (id strand : List ℕ) (n : ℕ) (i : Instance) (b : Bool) → position (λ i. same id i.id) w.instances ≡ Some n → slice_get w.instances n ≡ Some i → b ≡ can_go w.now strand i.node →
    refusal_of_step w.now strand (instance_at id w.instances) ≡ (cond b None (Some NotEnabled))
step_refusal w id strand n i b found at t =
    ap (refusal_of_step w.now strand) (instance_numbered id w.instances n found ∙ at) ∙ ap (λ c. cond c None (Some NotEnabled)) (sym t)

-- the instance of that number takes the step
pub steps_first : (w : World) (id strand : List ℕ) (n : ℕ) → position (λ i. same id i.id) w.instances ≡ Some n → n < length w.instances → StepsFirst w id strand n
steps_first w id strand n found within i m there takes = stepped_there w.now w.documents id strand w.instances n i m found within there takes

-- a change was made, or memory was missing
abbrev Made : World → Label → Change → Type 0
Made w l c = Suits w c × (after w l ≡ Some (changed w c)) × (refusal w l ≡ None) × (c.taken ≡ taken_by w l)

made_or_not : {E : Type 0} (w : World) (l : Label) (c : Change) (made : Result Change E) → IfOk made (λ x. x ≡ c) → Made w l c → Prepares w l (or_memory made)
made_or_not w l c (Ok x) e p = subst (Made w l) (sym e) p
made_or_not w l c (Err x) e p = tt

no_duplicate : (o : Option ℕ) (next : Option Refusal) → duplicate o next ≡ None → (o ≡ None) × (next ≡ None)
no_duplicate None next e = (refl, e)
no_duplicate (Some p) next e = cc

no_cause : (b : Bool) (r : Refusal) → cause b r None ≡ None → b ≡ false
no_cause true r e = cc
no_cause false r e = refl

none_with : (d : Document) (fs : List Fault) → fs ≢ [] → if_none d fs ≡ None
none_with d [] some = absurd (some refl)
none_with d (f ∷ fs) some = refl

-- a value that has faults is refused for them
pub not_loaded : (w : World) (v : Value) (fs : List Fault) → (fs ≡ faults v) × (fs ≢ []) → refusal w (Load v) ≡ Some (ForFaults fs)
not_loaded w v fs h =
    ap (refusal_of_load w (faults v)) (ap (if_none (document_of v)) (sym h.0) ∙ none_with (document_of v) fs h.1) ∙ ap (λ fs. Some (ForFaults fs)) (sym h.0)

-- and one that has none can be loaded
pub is_accepted : (v : Value) (d : Document) → (d ≡ document_of v) × (faults v ≡ []) → accepted v ≡ Some d
is_accepted v d h = ap (if_none (document_of v)) h.1 ∙ ap (λ d. Some d) (sym h.0)

-- the change of a load that is not refused
pub load_prepares : {E : Type 0} (w : World) (v : Value) (d : Document) (made : Result Change E) → accepted v ≡ Some d → refusal_of_load w (faults v) (Some d) ≡ None → IfOk made (λ c. c ≡ load_of v d) → Prepares w (Load v) (or_memory made)
load_prepares w v d made e t m =
    let p = no_duplicate (used_at (keys.Document d.key) w.keys) (cause (nat_le most_documents (length w.documents)) Full None) t in
    let new : is_used (keys.Document d.key) w ≡ false = sym (used_some (keys.Document d.key) w.keys) ∙ ap is_some p.0 in
    let few : nat_le most_documents (length w.documents) ≡ false = no_cause (nat_le most_documents (length w.documents)) Full p.1 in
    made_or_not w (Load v) (load_of v d) made m (
      record { named = refl; used_is = refl; new = new },
      ap (option_and_then (loaded w v)) e ∙ (λ i. cond (new i || few i) None (Some (with_document w v d))),
      ap (refusal_of_load w (faults v)) e ∙ t,
      refl,
    )

no_start : (w : World) (d : Document) → refusal_of_start w (Some d) ≡ None → nat_le most_instances (length w.instances) ≡ false
no_start w d e = no_cause (nat_le most_instances (length w.instances)) Full e

-- the change of a start that is not refused
pub start_prepares : {E : Type 0} (w : World) (id : List ℕ) (key : DocKey) (input : Value) (d : Document) (now : ℕ) (made : Result Change E) → now ≡ w.now → document_at key w.documents ≡ Some d →
    duplicate (used_at (keys.Instance id) w.keys) (refusal_of_start w (document_at key w.documents)) ≡ None → IfOk made (λ c. c ≡ start_of id d input now) →
    Prepares w (Start id key input) (or_memory made)
start_prepares w id key input d now made same e t m =
    let p = no_duplicate (used_at (keys.Instance id) w.keys) (refusal_of_start w (document_at key w.documents)) t in
    let new : is_used (keys.Instance id) w ≡ false = sym (used_some (keys.Instance id) w.keys) ∙ ap is_some p.0 in
    let few : nat_le most_instances (length w.instances) ≡ false = no_start w d (ap (refusal_of_start w) (sym e) ∙ p.1) in
    made_or_not w (Start id key input) (start_of id d input now) made m (
      record { placed = refl; used_is = refl; new = new; awake = refl },
      (λ i. cond (new i || few i) None (option_map (λ d. with_instance w (new_instance id input (sym same i) d)) (e i))),
      t,
      refl,
    )

-- the change of a moment that is not refused
pub moment_prepares : (w : World) (moment : ℕ) → moment ≤ 4503599627370495 → refusal_of_moment w moment ≡ None → Prepares w (Moment moment) (Ok (untold (kinds.Moment moment)))
moment_prepares w moment within t =
    let late : nat_le moment w.now ≡ false = no_cause (nat_le moment w.now) (Past w.now) t in
    (record { later = leb-false moment w.now late; within = within }, ap (λ b. cond b None (Some (with_moment w moment))) late, t, refl)

-- the change of an event that is not refused
telling : (w : World) (e : Event) (k : ChangeKind) → is_used (keys.Event e.source e.id) w ≡ false → TellsTo w.instances e k → suits w k × (after w (Told e) ≡ Some (changed_by w k))
telling w e (kinds.Event used heard) new t =
    let put : offered_all e w.instances ≡ put_all heard.items w.instances = sym (t.1.put ∙ offered_past (length w.instances) e w.instances (omega arith)) in (
      record { source = e.source; id = e.id; used_is = t.0; new = ap (λ k. is_used k w) t.0 ∙ new; from = t.1.heard },
      ap (λ b. cond b None (Some (with_event w e))) new ∙ (λ i. Some (record (counted (sym t.0 i) w) { instances = put i })),
    )
telling w e k new t = absurd t

pub event_prepares : {E : Type 0} (w : World) (e : Event) (made : Result Change E) → duplicate (used_at (keys.Event e.source e.id) w.keys) None ≡ None → IfOk made (IsTelling w.instances e) → Prepares w (Told e) (or_memory made)
event_prepares w e (Ok c) t m =
    let new : is_used (keys.Event e.source e.id) w ≡ false = sym (used_some (keys.Event e.source e.id) w.keys) ∙ ap is_some (no_duplicate (used_at (keys.Event e.source e.id) w.keys) None t).0 in
    let p = telling w e c.kind new m.tells in
    (p.0, p.1, t, m.taken)
event_prepares w e (Err x) t m = tt

-- the change of an answer that is not refused
pub reply_prepares : {E : Type 0} (w : World) (activity : List ℕ) (r : CallReply) (n : ℕ) (made : Result Change E) → used_at (keys.Activity activity) w.keys ≡ None → is_open activity w ≡ true → IsOpenAt activity w.instances n → IfOk made (λ c. c ≡ reply_of n activity r) →
    Prepares w (Reply activity r) (or_memory made)
reply_prepares w activity r n made e awaits there m =
    let new : is_used (keys.Activity activity) w ≡ false = sym (used_some (keys.Activity activity) w.keys) ∙ ap is_some e in
    made_or_not w (Reply activity r) (reply_of n activity r) made m (
      record { new = new; awaits = there },
      (λ i. cond (new i || not (awaits i)) None (Some (with_answer w activity r))),
      ap (λ o. duplicate o (refusal_of_reply w activity)) e ∙ ap (λ b. cause (not b) Stale None) awaits,
      refl,
    )

-- the instances after an event was offered to them that goes out, where one does
abbrev offered_by : Option Event → List Instance → List Instance
offered_by None is = is
offered_by (Some e) is = offered_all e is

-- those that took it leave the one of the number as it is
sent_from : (n : ℕ) (o : Option Event) (is : List Instance) (hs : List Hearing) → IsSent n o is hs → (slice_get (put_all hs is) n ≡ slice_get is n) × AllByRecursion (IsHeardFrom is) hs
sent_from n None is hs s = subst (λ hs. (slice_get (put_all hs is) n ≡ slice_get is n) × AllByRecursion (IsHeardFrom is) hs) (sym s) (refl, tt)
sent_from n (Some e) is hs s = (ap (λ is. slice_get is n) s.put ∙ offered_apart n e is, s.heard)

-- the instances after a step, where the event that goes out is offered to the others, and to the instance itself
sent_to : (n : ℕ) (j : Instance) (o : Option Event) (is : List Instance) (hs : List Hearing) → IsSent n o is hs → put_at n (offered_own o j) (put_all hs is) ≡ offered_by o (put_at n j is)
sent_to n j None is hs s = ap (λ hs. put_at n j (put_all hs is)) s
sent_to n j (Some e) is hs s = ap (put_at n (offered_own (Some e) j)) s.put ∙ offered_with n e j is

-- the world after a step, by its instances
sent_is : (w : World) (js : List Instance) (o : Option Event) → sent (record w { instances = js; count = w.count + 1 }) o ≡ record w { instances = offered_by o js; outbox = w.outbox ++ option_to_list o; count = w.count + 1 }
sent_is w js None = λ i. record w { instances = js; outbox = sym (append-nil w.outbox) i; count = w.count + 1 }
sent_is w js (Some e) = refl

-- the world after a step that was prepared
world_after : (w : World) (id strand : List ℕ) (n : ℕ) (prepared : Prepared) (hs : List Hearing) → StepsFirst w id strand n → IsReady w.now w.documents n strand w.instances prepared → IsSent n prepared.emitted w.instances hs →
    after w (Step id strand) ≡ Some (with_stepped w n prepared hs)
world_after w id strand n prepared hs first r s = by (step_at w.now w.documents strand r.instance) refl r.stepped
  where
    o : Option Event
    o = prepared.emitted

    by : (x : Option Stepped) → step_at w.now w.documents strand r.instance ≡ x → option_map (after_step r.instance) x ≡ Some (applied prepared r.instance, o) → after w (Step id strand) ≡ Some (with_stepped w n prepared hs)
    by None e q = cc
    by (Some m) e q =
        let p : after_step r.instance m ≡ (applied prepared r.instance, o) = same_Some (after_step r.instance m) (applied prepared r.instance, o) q in
        let sends : IsSent n m.emitted w.instances hs = subst (λ o. IsSent n o w.instances hs) (sym (ap (λ p. p.1) p)) s in
        let there = (sent_from n o w.instances hs s).0 ∙ r.there in
        ap (option_map (with_instances w)) (first r.instance m r.there e)
        ∙ ap (λ w. Some w) (
        sent_is w (put_at n (with_step r.instance m) w.instances) m.emitted
        ∙ ap (λ is. record w { instances = is; outbox = w.outbox ++ option_to_list m.emitted; count = w.count + 1 }) (sym (sent_to n (with_step r.instance m) m.emitted w.instances hs sends))
        ∙ (λ i. record w { instances = put_at n (p i).0 (put_all hs w.instances); outbox = w.outbox ++ option_to_list (p i).1; count = w.count + 1 })
        ∙ ap (λ is. record w { instances = is; outbox = w.outbox ++ option_to_list o; count = w.count + 1 }) (sym (take_put n prepared (put_all hs w.instances) r.instance there))
        )

-- the change of a step that is not refused
stepping : (w : World) (id strand : List ℕ) (n : ℕ) (k : ChangeKind) → StepsFirst w id strand n → Steps w.now w.documents n strand w.instances k → suits w k × (after w (Step id strand) ≡ Some (changed_by w k))
stepping w id strand n (kinds.Step m prepared heard) first s =
    let from = sent_from n prepared.emitted w.instances heard.items s.2 in
    subst (λ m. SuitsStep w m prepared heard.items × (after w (Step id strand) ≡ Some (with_stepped w m prepared heard.items))) (sym s.0) (
      record { strand = strand; ready = s.1; apart = from.0; from = from.1 },
      world_after w id strand n prepared heard.items first s.1 s.2,
    )
stepping w id strand n k first s = absurd s

pub step_prepares : {E : Type 0} (w : World) (id strand : List ℕ) (number : ℕ) (made : Result Change E) → StepsFirst w id strand number → refusal_of_step w.now strand (instance_at id w.instances) ≡ None →
    IfOk made (IsStepping w.now w.documents number strand w.instances) → Prepares w (Step id strand) (or_memory made)
step_prepares w id strand number (Ok c) first t m =
    let p = stepping w id strand number c.kind first m.steps in
    (p.0, p.1, t, m.taken)
step_prepares w id strand number (Err x) first t m = tt

-- a label that was refused has that cause, and leads nowhere
prepared_refused : (w : World) (l : Label) (result : Result Change PrepareFault) (r : Refusal) → Prepares w l result → result ≡ Err (Refused r) → (refusal w l ≡ Some r) × (after w l ≡ None)
prepared_refused w l (Ok c) r p e = cc
prepared_refused w l (Err OutOfMemory) r p e = cc
prepared_refused w l (Err (Refused s)) r p e = let h : s ≡ r = cc in let q : refusal w l ≡ Some r = p ∙ ap (λ r. Some r) h in (q, refused_nowhere w l r q)

-- the same, of the world and the label before room was made
pub refused_from : (u w : World) (k l : Label) (result : Result Change PrepareFault) → u ≡ w → l ≡ k → Prepares u k result → (r : Refusal) → result ≡ Err (Refused r) → (refusal w l ≡ Some r) × (after w l ≡ None)
refused_from u w k l result e f p r q =
    subst (λ w. (refusal w l ≡ Some r) × (after w l ≡ None)) e (subst (λ l. (refusal u l ≡ Some r) × (after u l ≡ None)) (sym f) (prepared_refused u k result r p q))
