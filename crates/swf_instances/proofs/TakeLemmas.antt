-- A step that is written into the map is the step of the definitions.
use Rattle.std.proofs.Common.{◌≡◌, ◌∙◌, ◌+◌, ap, sym, refl, subst, ℕ, zero, suc, ◌<◌, None, arith, length-append, List, [], ◌∷◌, ◌++◌, ◌||◌, ◌==◌, length, Option, Some, slice_get}
use Rattle.std.specs.Prelude.{slice_set}
use Rattle.std.specs.List.{AllByRecursion, IsDistinct}
use Rattle.std.specs.Map.{keys_of}
use Rattle.std.proofs.lemmas.Option.{same_Some}
use Rattle.indexmap.specs.IndexMap.{set_value_at}
use Rattle.swf_text.specs.Same.{same}
use Rattle.swf_meaning.specs.World.{Instance}
use Rattle.swf_tasks.specs.Prepares.{applied, Fits}
use Rattle.swf_tasks.specs.declared.prepared.Prepared.{Prepared}
use Rattle.swf_instances.specs.Held.{instances_in, IsPlaced, AreHeld}
use Rattle.swf_instances.specs.Takes.{FitsAt, take_at}
use Rattle.swf_instances.specs.Kept.{Kept, Listening}
use Rattle.swf_instances.specs.Offers.{ids, put_at}
use Rattle.swf_instances.specs.Queued.{Queued}
use Rattle.std.proofs.lemmas.List.{map-append}
use Rattle.swf_meaning.specs.Wake.{waits}
use Rattle.swf_instances.specs.Waits.{alarms_of}
use Rattle.swf_instances.proofs.QueuedLemmas.{queued_put, queued_pushed, length_put}
use Rattle.swf_instances.proofs.NoteLemmas.{noted_pushed}
use Rattle.swf_listeners.specs.Wanted.{Wanted, nothing}
use Rattle.swf_instances.proofs.WaitLemmas.{alarms_put, alarms_pushed}
use Rattle.swf_strands.specs.Alarm.{alarm_of}
use Rattle.swf_queue.specs.Queue.{Queue, is_among}

placed_pushed : (is : List (List ℕ × Instance)) (e : List ℕ × Instance) → AllByRecursion IsPlaced is → IsPlaced e → AllByRecursion IsPlaced (is ++ e ∷ [])
placed_pushed [] e placed own = (own, tt)
placed_pushed (x ∷ xs) e placed own = (placed.0, placed_pushed xs e placed.1 own)

-- those with one more whose ids are apart
pub held_pushed : (es : List (List ℕ × Instance)) (id : List ℕ) (i : Instance) (fs : List (List ℕ × Instance)) → AreHeld es → id ≡ i.id → fs ≡ es ++ (id, i) ∷ [] → IsDistinct same (keys_of fs) → AreHeld fs
held_pushed es id i fs held own more apart = record { placed = subst (AllByRecursion IsPlaced) (sym more) (placed_pushed es (id, i) held.placed own); apart = apart }

-- an instance keeps its id
pub same_id : (p : Prepared) (i : Instance) → (applied p i).id ≡ i.id
same_id p i = refl

set_placed : (es : List (List ℕ × Instance)) (n : ℕ) (j : Instance) → AllByRecursion IsPlaced es → slice_get (ids (instances_in es)) n ≡ Some j.id → AllByRecursion IsPlaced (set_value_at es n j)
set_placed [] n j placed e = placed
set_placed (x ∷ xs) zero j placed e = (placed.0 ∙ same_Some x.1.id j.id e, placed.1)
set_placed (x ∷ xs) (suc n) j placed e = (placed.0, set_placed xs n j placed.1 e)

keys_set : (es : List (List ℕ × Instance)) (n : ℕ) (j : Instance) → keys_of (set_value_at es n j) ≡ keys_of es
keys_set [] n j = refl
keys_set (e ∷ es) zero j = refl
keys_set (e ∷ es) (suc n) j = ap (λ ks. e.0 ∷ ks) (keys_set es n j)

pub length_set : (es : List (List ℕ × Instance)) (n : ℕ) (j : Instance) → length (set_value_at es n j) ≡ length es
length_set [] n j = refl
length_set (e ∷ es) zero j = refl
length_set (e ∷ es) (suc n) j = ap suc (length_set es n j)

-- another instance of the same id in its place
held_set : (es : List (List ℕ × Instance)) (n : ℕ) (j : Instance) → AreHeld es → slice_get (ids (instances_in es)) n ≡ Some j.id → AreHeld (set_value_at es n j)
held_set es n j held e = record { placed = set_placed es n j held.placed e; apart = subst (IsDistinct same) (sym (keys_set es n j)) held.apart }

-- where an id stands there is an instance
pub id_within : (is : List Instance) (n : ℕ) (id : List ℕ) → slice_get (ids is) n ≡ Some id → n < length is
id_within [] n id e = cc
id_within (i ∷ is) zero id e = omega arith
id_within (i ∷ is) (suc n) id e = omega (arith, id_within is n id e)

-- an instance is put into the map
pub set_put : (es : List (List ℕ × Instance)) (n : ℕ) (j : Instance) → instances_in (set_value_at es n j) ≡ put_at n j (instances_in es)
set_put [] n j = refl
set_put (e ∷ es) zero j = refl
set_put (e ∷ es) (suc n) j = ap (λ is. e.1 ∷ is) (set_put es n j)

-- the instance of a number is put in its place after its step
pub take_put : (n : ℕ) (p : Prepared) (is : List Instance) (i : Instance) → slice_get is n ≡ Some i → take_at n p is ≡ put_at n (applied p i) is
take_put n p [] i e = cc
take_put zero p (x ∷ xs) i e = ap (λ i. applied p i ∷ xs) (same_Some x i e)
take_put (suc n) p (x ∷ xs) i e = ap (λ is. x ∷ is) (take_put n p xs i e)

-- an instance that takes a step is there
pub fits_there : (es : List (List ℕ × Instance)) (n : ℕ) (p : Prepared) (is : List Instance) (i : Instance) → instances_in es ≡ is → FitsAt n p is → slice_get (instances_in es) n ≡ Some i → Fits p i
fits_there es n p is i e f there = subst (Fits p) (same_Some f.0 i (sym f.1 ∙ sym (ap (λ is. slice_get is n) e) ∙ there)) f.2

-- with another instance of the same id in a place, which joins the queue, all goes on to agree
pub kept_put : (es : List (List ℕ × Instance)) (now n : ℕ) (queue next : Queue) (alarms : List (Option ℕ)) (wanted : List Wanted) (stale fresh : Queue) (j : Instance) → Kept es now queue alarms wanted stale →
    slice_get (ids (instances_in es)) n ≡ Some j.id → ((m : ℕ) → is_among m next.numbers ≡ (is_among m queue.numbers || (m == n))) → next.count ≡ queue.count →
    Listening (put_at n j (instances_in es)) wanted fresh → Kept (set_value_at es n j) now next (slice_set alarms n (alarm_of j.node)) wanted fresh
kept_put es now n queue next alarms wanted stale fresh j kept own among count listening =
    let is = instances_in es in
    let put : instances_in (set_value_at es n j) ≡ put_at n j is = set_put es n j in
    record {
      held = held_set es n j kept.held own;
      waiting = record {
        queued = subst (λ xs. Queued now xs next.numbers) (sym put) (queued_put now is queue.numbers next.numbers n j among kept.waiting.queued);
        count = count ∙ kept.waiting.count ∙ sym (length_put is n j) ∙ sym (ap length put);
        own = ap (λ os. slice_set os n (alarm_of j.node)) kept.waiting.own ∙ alarms_put is n j ∙ sym (ap alarms_of put);
      };
      listening = subst (λ xs. Listening xs wanted fresh) (sym put) listening;
    }

-- those with one more, which does not wait, agree with the queue and the alarms
pub kept_pushed : (es fs : List (List ℕ × Instance)) (now : ℕ) (queue next : Queue) (alarms more : List (Option ℕ)) (wanted with : List Wanted) (stale fresh : Queue) (id : List ℕ) (i : Instance) → Kept es now queue alarms wanted stale → id ≡ i.id → waits i.node ≡ [] → fs ≡ es ++ (id, i) ∷ [] →
    IsDistinct same (keys_of fs) → next.numbers ≡ queue.numbers ++ queue.count ∷ [] → next.count ≡ queue.count + 1 → more ≡ alarms ++ None ∷ [] →
    with ≡ wanted ++ nothing ∷ [] → fresh.numbers ≡ stale.numbers ++ stale.count ∷ [] → fresh.count ≡ stale.count + 1 → Kept fs now next more with fresh
kept_pushed es fs now queue next alarms more wanted with stale fresh id i kept own awake pushed apart numbers count added noted stales stale_count =
    let is = instances_in es in
    let all : instances_in fs ≡ is ++ i ∷ [] = ap instances_in pushed ∙ map-append (λ e. e.1) es ((id, i) ∷ []) in
    record {
      held = held_pushed es id i fs kept.held own pushed apart;
      waiting = record {
        queued = subst (λ xs. Queued now xs next.numbers) (sym all) (subst (λ q. Queued now (is ++ i ∷ []) q) (sym numbers)
            (queued_pushed now is i queue.numbers queue.count kept.waiting.count kept.waiting.queued));
        count = count ∙ ap (λ n. n + 1) kept.waiting.count ∙ sym (length-append is (i ∷ [])) ∙ sym (ap length all);
        own = added ∙ ap (λ xs. xs ++ None ∷ []) kept.waiting.own ∙ alarms_pushed is i awake ∙ sym (ap alarms_of all);
      };
      listening = subst (λ xs. Listening xs with fresh) (sym all) (subst (λ ws. Listening (is ++ i ∷ []) ws fresh) (sym noted) (noted_pushed is wanted stale fresh i kept.listening stales stale_count));
    }
