-- In a legal run no key is used twice.
use Rattle.std.proofs.Common.{arith, ◌+◌, ◌⊎◌, inl, inr, ⊎_elim, ◌≡◌, ◌∙◌, ap, sym, refl, subst, ℕ, List, [], ◌∷◌, ◌++◌, Bool, true, false, not, ◌&&◌, ◌||◌, ◌≤◌, if◌then◌else◌, is_some, Option, Some, None, option_map, option_and_then, nat_le, length}
use Rattle.std.specs.List.{list_any, filter_map, cons_option}
use Rattle.std.proofs.lemmas.Bool.{and_parts, or_parts, or_left, or_right, or_from, and_from, not_from_false, false_from_ne_true, both_ways, leb-false, eqb-true, eq-eqb}
use Rattle.std.proofs.lemmas.Option.{option_and_then_some, same_Some}
use Rattle.std.proofs.lemmas.List.Folds.{list_any-append}
use Rattle.swf_value.specs.Value.{Value}
use Rattle.swf_text.specs.Same.{same}
use Rattle.swf_text.proofs.SameLemmas.{same_true, same_refl}
use Rattle.swf_reader.specs.Reads.{document_of}
use Rattle.swf_document.specs.declared.document.Document.{Document}
use Rattle.swf_document.specs.declared.fault.Fault.{Fault}
use Rattle.swf_meaning.specs.declared.label.Label.{Label}
use Rattle.swf_meaning.specs.declared.label.Label.TheVariants.{Load, Start, Event as Told, Reply, Moment, Step}
use Rattle.swf_cloudevents.specs.declared.event.Event.{Event}
use Rattle.swf_runs.specs.Keys.{same_key, doc_key, key_of, are_distinct, Once}
use Rattle.swf_meaning.specs.declared.key.Key.{Key}
use Rattle.swf_meaning.specs.declared.key.Key.TheVariants.{Document as OfDocument, Instance as OfInstance, Event as OfEvent, Activity as OfActivity, Moment as OfMoment}
use Rattle.swf_meaning.specs.World.{World, empty, new_instance}
use Rattle.swf_meaning.specs.Documents.{document_at}
use Rattle.swf_validate.specs.Accepts.{faults}
use Rattle.swf_calls.specs.declared.reply.CallReply.{CallReply}
use Rattle.swf_runs.specs.After.{is_used, with_document, loaded, if_none, accepted, most_documents, with_instance, most_instances, with_event, is_open, with_answer, replied, stepped, sent, with_instances, counted, after}
use Rattle.swf_runs.specs.Runs.{run_from, Legal}

-- what is mapped to a value is a value
pub mapped_some : {A B P : Type 0} (f : A → B) (o : Option A) (y : B) → option_map f o ≡ Some y → ((x : A) → o ≡ Some x → f x ≡ y → P) → P
mapped_some f None y e k = cc
mapped_some f (Some x) y e k = k x refl (same_Some (f x) y e)

-- a choice that gives a value where the test must fail
pub refused_some : {A : Type 0} (b : Bool) (o : Option A) (y : A) → (if b then None else o) ≡ Some y → (b ≡ false) × (o ≡ Some y)
refused_some true o y e = cc
refused_some false o y e = (refl, e)

-- keys that pass the test are equal
pub same_key_true : (a b : Key) → same_key a b ≡ true → a ≡ b
same_key_true (OfDocument a) (OfDocument b) e =
    let p = and_parts (same a.namespace b.namespace && same a.name b.name) (same a.version b.version) e in
    let q = and_parts (same a.namespace b.namespace) (same a.name b.name) p.0 in
    let namespace = same_true a.namespace b.namespace q.0 in
    let name = same_true a.name b.name q.1 in
    let version = same_true a.version b.version p.1 in
    λ i. OfDocument (record { namespace = namespace i; name = name i; version = version i })
same_key_true (OfInstance a) (OfInstance b) e = ap OfInstance (same_true a b e)
same_key_true (OfEvent s a) (OfEvent t b) e =
    let p = and_parts (same s t) (same a b) e in
    let source = same_true s t p.0 in
    let id = same_true a b p.1 in
    λ i. OfEvent (source i) (id i)
same_key_true (OfActivity a) (OfActivity b) e = ap OfActivity (same_true a b e)
same_key_true (OfMoment a) (OfMoment b) e = ap OfMoment (eqb-true a b e)
same_key_true a b e = cc

-- a key passes the test with itself
pub same_key_refl : (k : Key) → same_key k k ≡ true
same_key_refl (OfDocument d) =
    and_from (same d.namespace d.namespace && same d.name d.name) (same d.version d.version)
    (and_from (same d.namespace d.namespace) (same d.name d.name) (same_refl d.namespace) (same_refl d.name))
    (same_refl d.version)
same_key_refl (OfInstance id) = same_refl id
same_key_refl (OfEvent s id) = and_from (same s s) (same id id) (same_refl s) (same_refl id)
same_key_refl (OfActivity a) = same_refl a
same_key_refl (OfMoment m) = eq-eqb m m refl

-- a value that can be loaded is its document
pub if_none_some : (e : Document) (fs : List Fault) (d : Document) → if_none e fs ≡ Some d → e ≡ d
if_none_some e [] d h = same_Some e d h
if_none_some e (f ∷ fs) d h = cc

pub accepted_is : (v : Value) (d : Document) → accepted v ≡ Some d → document_of v ≡ d
accepted_is v d e = if_none_some (document_of v) (faults v) d e

-- the key of a document is the key that its value gives
pub doc_key_read : (v : Value) (d : Document) → accepted v ≡ Some d → doc_key v ≡ d.key
doc_key_read v d e = ap (λ d. d.key) (accepted_is v d e)

-- an answer that comes asks for a new key and an open call
pub replied_some : (w m : World) (a : List ℕ) (r : CallReply) → replied w a r ≡ Some m → (is_used (OfActivity a) w ≡ false) × (is_open a w ≡ true) × (with_answer w a r ≡ m)
replied_some w m a r e =
    let h = refused_some (is_used (OfActivity a) w || not (is_open a w)) (Some (with_answer w a r)) m e in
    let p = or_parts (is_used (OfActivity a) w) (not (is_open a w)) h.0 in
    (p.0, yes (is_open a w) p.1, same_Some (with_answer w a r) m h.1)
  where
    yes : (b : Bool) → not b ≡ false → b ≡ true
    yes true f = refl
    yes false f = cc

-- what a label's key does in the world after it: it was not used, and it is now
abbrev pub Grown : Option Key → World → World → Type 0
Grown None w m = m.keys ≡ w.keys
Grown (Some k) w m = (is_used k w ≡ false) × (m.keys ≡ w.keys ++ (k, w.count) ∷ [])

-- a load asks for a new key, which it uses
loaded_grown : (w m : World) (v : Value) (d : Document) → loaded w v d ≡ Some m → Grown (Some (OfDocument d.key)) w m
loaded_grown w m v d e =
    let h = refused_some (is_used (OfDocument d.key) w || nat_le most_documents (length w.documents)) (Some (with_document w v d)) m e in
    ((or_parts (is_used (OfDocument d.key) w) (nat_le most_documents (length w.documents)) h.0).0, ap (λ u. u.keys) (sym (same_Some (with_document w v d) m h.1)))

-- no moment was reached that is above the present one
abbrev pub Timed : World → Type 0
Timed w = (t : ℕ) → is_used (OfMoment t) w ≡ true → t ≤ w.now

not_reached : (w : World) (t : ℕ) → Timed w → nat_le t w.now ≡ false → is_used (OfMoment t) w ≡ false
not_reached w t timed p = false_from_ne_true (is_used (OfMoment t) w) (λ u. omega (arith, timed t u, leb-false t w.now p))

-- what goes out uses no key and takes no time
sent_keys : (w : World) (o : Option Event) → (sent w o).keys ≡ w.keys
sent_keys w None = refl
sent_keys w (Some e) = refl

pub sent_now : (w : World) (o : Option Event) → (sent w o).now ≡ w.now
sent_now w None = refl
sent_now w (Some e) = refl

-- a label that has a key asks for a new one, which it uses
pub after_grown : (w m : World) (l : Label) → Timed w → after w l ≡ Some m → Grown (key_of l) w m
after_grown w m (Load v) timed e = option_and_then_some (loaded w v) (accepted v) m e
    (λ d p q. subst (λ k. Grown (Some (OfDocument k)) w m) (sym (doc_key_read v d p)) (loaded_grown w m v d q))
after_grown w m (Start id key input) timed e =
    let h = refused_some (is_used (OfInstance id) w || nat_le most_instances (length w.instances)) (option_map (λ d. with_instance w (new_instance id input w.now d)) (document_at key w.documents)) m e in
    ((or_parts (is_used (OfInstance id) w) (nat_le most_instances (length w.instances)) h.0).0, mapped_some (λ d. with_instance w (new_instance id input w.now d)) (document_at key w.documents) m h.1 (λ d p q. ap (λ u. u.keys) (sym q)))
after_grown w m (Told x) timed e =
    let h = refused_some (is_used (OfEvent x.source x.id) w) (Some (with_event w x)) m e in
    (h.0, ap (λ u. u.keys) (sym (same_Some (with_event w x) m h.1)))
after_grown w m (Reply a x) timed e = let h = replied_some w m a x e in (h.0, ap (λ u. u.keys) (sym h.2))
after_grown w m (Moment t) timed e =
    let h = refused_some (nat_le t w.now) (Some (record (counted (OfMoment t) w) { now = t })) m e in
    (not_reached w t timed h.0, ap (λ u. u.keys) (sym (same_Some (record (counted (OfMoment t) w) { now = t }) m h.1)))
after_grown w m (Step id strand) timed e =
    mapped_some (with_instances w) (stepped w.now w.documents id strand w.instances) m e (λ x p q. ap (λ u. u.keys) (sym q) ∙ sent_keys (record w { instances = x.0; count = w.count + 1 }) x.1)

-- a key that is used after a label was used before it, or is the label's
used_before : (o : Option Key) (w m : World) (k : Key) → Grown o w m → is_used k m ≡ true → (is_used k w ≡ true) ⊎ (o ≡ Some k)
used_before None w m k g u = inl (sym (ap (list_any (λ p. same_key k p.0)) g) ∙ u)
used_before (Some a) w m k g u =
    by (is_used k w) (same_key k a) refl refl (sym (ap (list_any (λ p. same_key k p.0)) g.1 ∙ list_any-append (λ p. same_key k p.0) w.keys ((a, w.count) ∷ [])) ∙ u)
  where
    by : (b c : Bool) → is_used k w ≡ b → same_key k a ≡ c → (b || (c || false)) ≡ true → (is_used k w ≡ true) ⊎ (Some a ≡ Some k)
    by true c p q h = inl p
    by false true p q h = inr (ap Some (sym (same_key_true k a q)))
    by false false p q h = cc

-- the present moment does not fall, and a moment that is reached is the present one
abbrev Later : Label → World → World → Type 0
Later l w m = (w.now ≤ m.now) × ((t : ℕ) → key_of l ≡ Some (OfMoment t) → t ≤ m.now)

same_now : (l : Label) (w m : World) → m.now ≡ w.now → ((t : ℕ) → key_of l ≡ Some (OfMoment t) → ⊥) → Later l w m
same_now l w m e none = (omega (arith, e), λ t k. absurd (none t k))

later : (w m : World) (l : Label) → after w l ≡ Some m → Later l w m
later w m (Load v) e = option_and_then_some (loaded w v) (accepted v) m e
    (λ d p q.
    let h = refused_some (is_used (OfDocument d.key) w || nat_le most_documents (length w.documents)) (Some (with_document w v d)) m q in
    same_now (Load v) w m (ap (λ u. u.now) (sym (same_Some (with_document w v d) m h.1))) (λ t k. cc))
later w m (Start id key input) e =
    let h = refused_some (is_used (OfInstance id) w || nat_le most_instances (length w.instances)) (option_map (λ d. with_instance w (new_instance id input w.now d)) (document_at key w.documents)) m e in
    same_now (Start id key input) w m (mapped_some (λ d. with_instance w (new_instance id input w.now d)) (document_at key w.documents) m h.1 (λ d p q. ap (λ u. u.now) (sym q))) (λ t k. cc)
later w m (Told x) e =
    let h = refused_some (is_used (OfEvent x.source x.id) w) (Some (with_event w x)) m e in
    same_now (Told x) w m (ap (λ u. u.now) (sym (same_Some (with_event w x) m h.1))) (λ t k. cc)
later w m (Reply a x) e = let h = replied_some w m a x e in same_now (Reply a x) w m (ap (λ u. u.now) (sym h.2)) (λ t k. cc)
later w m (Moment t) e =
    let h = refused_some (nat_le t w.now) (Some (record (counted (OfMoment t) w) { now = t })) m e in
    let n : t ≡ m.now = ap (λ u. u.now) (same_Some (record (counted (OfMoment t) w) { now = t }) m h.1) in
    (omega (arith, n, leb-false t w.now h.0), λ u k. let same : t ≡ u = cc in omega (arith, n, same))
later w m (Step id strand) e =
    same_now (Step id strand) w m (mapped_some (with_instances w) (stepped w.now w.documents id strand w.instances) m e (λ x p q. ap (λ u. u.now) (sym q) ∙ sent_now (record w { instances = x.0; count = w.count + 1 }) x.1)) (λ t k. cc)

pub timed_after : (w m : World) (l : Label) → Timed w → after w l ≡ Some m → Timed m
timed_after w m l timed e t u =
    let f = later w m l e in
    ⊎_elim (λ p. omega (arith, timed t p, f.0)) (λ q. f.1 t q) (used_before (key_of l) w m (OfMoment t) (after_grown w m l timed e) u)

-- a key that was used stays so
pub still_used : (o : Option Key) (w m : World) (k : Key) → Grown o w m → is_used k w ≡ true → is_used k m ≡ true
still_used None w m k g u = ap (list_any (λ p. same_key k p.0)) g ∙ u
still_used (Some a) w m k g u =
    ap (list_any (λ p. same_key k p.0)) g.1 ∙ list_any-append (λ p. same_key k p.0) w.keys ((a, w.count) ∷ [])
    ∙ or_left (is_used k w) (same_key k a || false) u

-- a label's key is used after it
pub now_used : (w m : World) (k : Key) → Grown (Some k) w m → is_used k m ≡ true
now_used w m k g =
    ap (list_any (λ p. same_key k p.0)) g.1 ∙ list_any-append (λ p. same_key k p.0) w.keys ((k, w.count) ∷ [])
    ∙ or_right (is_used k w) (same_key k k || false) (or_left (same_key k k) false (same_key_refl k))

-- a used key is not a new one
not_new : (w : World) (k a : Key) → is_used a w ≡ false → is_used k w ≡ true → same_key k a ≡ false
not_new w k a n u = false_from_ne_true (same_key k a) (λ e. both_ways (is_used a w) n (subst (λ x. is_used x w ≡ true) (same_key_true k a e) u))

-- a run that goes on has a first world
first_world : {P : Type 0} (o : Option World) (ls : List Label) → is_some (option_and_then (λ m. run_from m ls) o) ≡ true → ((m : World) → o ≡ Some m → is_some (run_from m ls) ≡ true → P) → P
first_world None ls r k = cc
first_world (Some m) ls r k = k m refl r

-- a used key is not the key of the first label, nor of the later ones
not_here : (o : Option Key) (w m : World) (k : Key) (ks : List Key) → Grown o w m → is_used k w ≡ true → (is_used k m ≡ true → list_any (same_key k) ks ≡ false) → list_any (same_key k) (cons_option o ks) ≡ false
not_here None w m k ks g u f = f (still_used None w m k g u)
not_here (Some a) w m k ks g u f = or_from (same_key k a) (list_any (same_key k) ks) (not_new w k a g.0 u) (f (still_used (Some a) w m k g u))

-- a used key is not the key of a later label
not_later : (ls : List Label) (w : World) (k : Key) → Timed w → is_some (run_from w ls) ≡ true → is_used k w ≡ true → list_any (same_key k) (filter_map key_of ls) ≡ false
not_later [] w k timed r u = refl
not_later (l ∷ ls) w k timed r u =
    first_world (after w l) ls r (λ m p q. not_here (key_of l) w m k (filter_map key_of ls) (after_grown w m l timed p) u (λ t. not_later ls m k (timed_after w m l timed p) q t))

-- the key of the first label is not that of a later one
once_here : (o : Option Key) (w m : World) (ls : List Label) → Timed m → Grown o w m → is_some (run_from m ls) ≡ true → Once ls → are_distinct (cons_option o (filter_map key_of ls)) ≡ true
once_here None w m ls timed g r h = h
once_here (Some k) w m ls timed g r h =
    let n = not_later ls m k timed r (now_used w m k g) in
    and_from (not (list_any (same_key k) (filter_map key_of ls))) (are_distinct (filter_map key_of ls)) (not_from_false (list_any (same_key k) (filter_map key_of ls)) n) h

-- no run uses a key twice, from a world whose moments have come
once_from : (w : World) (ls : List Label) → Timed w → is_some (run_from w ls) ≡ true → Once ls
once_from w [] timed r = refl
once_from w (l ∷ ls) timed r =
    first_world (after w l) ls r (λ m p q. let u = timed_after w m l timed p in once_here (key_of l) w m ls u (after_grown w m l timed p) q (once_from m ls u q))

-- no legal run uses a key twice
pub once_of_legal : (h : List Label) → Legal h → Once h
once_of_legal h r = once_from empty h (λ t u. cc) r
