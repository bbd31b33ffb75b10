-- The parts stand for the world that a change makes, and go on to agree with each other.
use Rattle.std.proofs.Common.{◌≡◌, ◌∙◌, ap, sym, refl, cond, ℕ, ◌+◌, ◌<◌, ◌||◌, List, [], ◌∷◌, ◌++◌, map, Bool, true, false, is_some, Option, Some, None, arith}
use Rattle.std.proofs.lemmas.List.Folds.{list_any-append}
use Rattle.std.proofs.lemmas.Bool.{or_parts, or_from, ne_eqb}
use Rattle.std.specs.List.{AllByRecursion, list_any}
use Rattle.swf_text.specs.Same.{same}
use Rattle.swf_value.specs.Value.{Value}
use Rattle.swf_cloudevents.specs.declared.event.Event.{Event}
use Rattle.swf_document.specs.declared.document.DocKey.{DocKey}
use Rattle.swf_document.specs.declared.document.Document.{Document}
use Rattle.swf_meaning.specs.declared.key.Key.{Key}
use Rattle.swf_meaning.specs.declared.key.Key.TheVariants as keys
use Rattle.swf_meaning.specs.Answer.{instance_at}
use Rattle.swf_meaning.specs.Documents.{same_doc, Loaded as WorldLoaded, document_at}
use Rattle.swf_runs.specs.Keys.{same_key}
use Rattle.swf_meaning.specs.World.{World, Instance}
use Rattle.swf_runs.specs.After.{counted, is_used, with_document, with_instance}
use Rattle.swf_registry.specs.UsedKey.{used_at}
use Rattle.swf_registry.proofs.Lookups.{not_used}
use Rattle.swf_instances.specs.Offers.{ids}
use Rattle.swf_instances.proofs.OfferLemmas.{all_pushed}
use Rattle.swf_world.specs.Changes.{with_moment}
use Rattle.swf_world.specs.Early.{IsEarly, most_labels}
use Rattle.swf_world.specs.Kept.{Kept}

-- a key that is not among those with one more is neither
not_among : (k : Key) (ks : List (Key × ℕ)) (used : Key) (n : ℕ) → list_any (λ p. same_key k p.0) (ks ++ (used, n) ∷ []) ≡ false → (list_any (λ p. same_key k p.0) ks ≡ false) × (same_key k used ≡ false)
not_among k ks used n h =
    let p = or_parts (list_any (λ p. same_key k p.0) ks) (same_key k used || false) (sym (list_any-append (λ p. same_key k p.0) ks ((used, n) ∷ [])) ∙ h) in
    (p.0, (or_parts (same_key k used) false p.1).0)

-- the places stay early
early_pushed : (ks : List (Key × ℕ)) (k : Key) (n : ℕ) → AllByRecursion IsEarly ks → n < most_labels → AllByRecursion IsEarly (ks ++ (k, n) ∷ [])
early_pushed ks k n early few = all_pushed IsEarly ks (k, n) early (omega arith)

-- a key that is neither among those nor the one more
still_not : (k : Key) (ks : List (Key × ℕ)) (used : Key) (n : ℕ) → list_any (λ p. same_key k p.0) ks ≡ false → same_key k used ≡ false → list_any (λ p. same_key k p.0) (ks ++ (used, n) ∷ []) ≡ false
still_not k ks used n h e =
    list_any-append (λ p. same_key k p.0) ks ((used, n) ∷ [])
    ∙ or_from (list_any (λ p. same_key k p.0) ks) (same_key k used || false) h (or_from (same_key k used) false e refl)

-- a document that is not found is not found with one more of another key
document_pushed : (k : DocKey) (ds : List WorldLoaded) (d : WorldLoaded) → document_at k ds ≡ None → same_doc k d.document.key ≡ false → document_at k (ds ++ d ∷ []) ≡ None
document_pushed k [] d h e = ap (λ b. cond b (Some d.document) None) e
document_pushed k (x ∷ xs) d h e = by (same_doc k x.document.key) h (λ g. document_pushed k xs d g e)
  where
    by : (b : Bool) → cond b (Some x.document) (document_at k xs) ≡ None → (document_at k xs ≡ None → document_at k (xs ++ d ∷ []) ≡ None) → cond b (Some x.document) (document_at k (xs ++ d ∷ [])) ≡ None
    by true h rest = cc
    by false h rest = rest h

-- the same of an instance
instance_pushed : (id : List ℕ) (is : List Instance) (i : Instance) → instance_at id is ≡ None → same id i.id ≡ false → instance_at id (is ++ i ∷ []) ≡ None
instance_pushed id [] i h e = ap (λ b. cond b (Some i) None) e
instance_pushed id (x ∷ xs) i h e = by (same id x.id) h (λ g. instance_pushed id xs i g e)
  where
    by : (b : Bool) → cond b (Some x) (instance_at id xs) ≡ None → (instance_at id xs ≡ None → instance_at id (xs ++ i ∷ []) ≡ None) → cond b (Some x) (instance_at id (xs ++ i ∷ [])) ≡ None
    by true h rest = cc
    by false h rest = rest h

found_id : (id : List ℕ) (is : List Instance) → is_some (instance_at id is) ≡ list_any (same id) (ids is)
found_id id [] = refl
found_id id (i ∷ is) = by (same id i.id) (found_id id is)
  where
    by : (b : Bool) → is_some (instance_at id is) ≡ list_any (same id) (map (λ i. i.id) is) → is_some (cond b (Some i) (instance_at id is)) ≡ (b || list_any (same id) (map (λ i. i.id) is))
    by true h = refl
    by false h = h

none_from : {A : Type 0} (o : Option A) → is_some o ≡ false → o ≡ None
none_from None e = refl
none_from (Some x) e = cc

-- an id that is not found is not found among instances of the same ids
none_again : (id : List ℕ) (is js : List Instance) → ids js ≡ ids is → instance_at id is ≡ None → instance_at id js ≡ None
none_again id is js e h = none_from (instance_at id js) (found_id id js ∙ ap (list_any (same id)) e ∙ sym (found_id id is) ∙ ap is_some h)

pub kept_loaded : (w : World) (v : Value) (d : Document) → Kept w → w.count < most_labels → Kept (with_document w v d)
kept_loaded w v d kept few = record {
  new = record {
    document = λ k h.
        let p = not_among (keys.Document k) w.keys (keys.Document d.key) w.count h in
        document_pushed k w.documents (record { value = v; document = d }) (kept.new.document k p.0) p.1;
    instance = λ id h. kept.new.instance id (not_among (keys.Instance id) w.keys (keys.Document d.key) w.count h).0;
    moment = λ m later. still_not (keys.Moment m) w.keys (keys.Document d.key) w.count (kept.new.moment m later) refl;
  };
  early = early_pushed w.keys (keys.Document d.key) w.count kept.early few;
  few = omega arith;
}

pub kept_started : (w : World) (i : Instance) → Kept w → w.count < most_labels → Kept (with_instance w i)
kept_started w i kept few = record {
  new = record {
    document = λ k h. kept.new.document k (not_among (keys.Document k) w.keys (keys.Instance i.id) w.count h).0;
    instance = λ id h.
        let p = not_among (keys.Instance id) w.keys (keys.Instance i.id) w.count h in
        instance_pushed id w.instances i (kept.new.instance id p.0) p.1;
    moment = λ m later. still_not (keys.Moment m) w.keys (keys.Instance i.id) w.count (kept.new.moment m later) refl;
  };
  early = early_pushed w.keys (keys.Instance i.id) w.count kept.early few;
  few = omega arith;
}

-- a moment that was reached
pub kept_reached : (w : World) (moment : ℕ) → Kept w → w.now < moment → w.count < most_labels → Kept (with_moment w moment)
kept_reached w moment kept later few = record {
  new = record {
    document = λ k h. kept.new.document k (not_among (keys.Document k) w.keys (keys.Moment moment) w.count h).0;
    instance = λ id h. kept.new.instance id (not_among (keys.Instance id) w.keys (keys.Moment moment) w.count h).0;
    moment = λ m after. still_not (keys.Moment m) w.keys (keys.Moment moment) w.count (kept.new.moment m (omega arith)) (ne_eqb m moment (λ e. omega arith));
  };
  early = early_pushed w.keys (keys.Moment moment) w.count kept.early few;
  few = omega arith;
}

-- other instances of the same ids
pub kept_changed : (w : World) (js : List Instance) → Kept w → ids js ≡ ids w.instances → Kept (record w { instances = js })
kept_changed w js kept same_ids = record {
  new = record {
    document = kept.new.document;
    instance = λ id h. none_again id w.instances js same_ids (kept.new.instance id h);
    moment = kept.new.moment;
  };
  early = kept.early;
  few = kept.few;
}

-- a key was used, which is that of no moment
kept_used : (w : World) (used : Key) → Kept w → ((m : ℕ) → same_key (keys.Moment m) used ≡ false) → w.count < most_labels → Kept (counted used w)
kept_used w used kept other few = record {
  new = record {
    document = λ k h. kept.new.document k (not_among (keys.Document k) w.keys used w.count h).0;
    instance = λ k h. kept.new.instance k (not_among (keys.Instance k) w.keys used w.count h).0;
    moment = λ m later. still_not (keys.Moment m) w.keys used w.count (kept.new.moment m later) (other m);
  };
  early = early_pushed w.keys used w.count kept.early few;
  few = omega arith;
}

-- the key of an event was used
pub kept_told : (w : World) (used : Key) (source id : List ℕ) → Kept w → used ≡ keys.Event source id → w.count < most_labels → Kept (counted used w)
kept_told w used source id kept e few = kept_used w used kept (λ m. ap (same_key (keys.Moment m)) e) few

-- that of an activity
pub kept_answered : (w : World) (activity : List ℕ) → Kept w → w.count < most_labels → Kept (counted (keys.Activity activity) w)
kept_answered w activity kept few = kept_used w (keys.Activity activity) kept (λ m. refl) few

-- a label that uses no key, and lets events out
pub kept_counted : (w : World) (es : List Event) → Kept w → w.count < most_labels → Kept (record w { outbox = es; count = w.count + 1 })
kept_counted w es kept few = record { new = record { document = kept.new.document; instance = kept.new.instance; moment = kept.new.moment }; early = kept.early; few = omega arith }

-- a key that was not used in the world has no place among its keys
pub not_used_in : (w u : World) (used k : Key) → w ≡ u → used ≡ k → is_used k u ≡ false → used_at used w.keys ≡ None
not_used_in w u used k same e new = not_used used w.keys (ap (λ k. is_used k w) e ∙ ap (is_used k) same ∙ new)

-- the world of a document more, and of an instance more
pub loaded_world : (w : World) (v : Value) (d : Document) (used : Key) (ds : List WorldLoaded) (ks : List (Key × ℕ)) → ds ≡ w.documents ++ (record { value = v; document = d }) ∷ [] → ks ≡ w.keys ++ (used, w.count) ∷ [] → used ≡ keys.Document d.key →
    record w { documents = ds; keys = ks; count = w.count + 1 } ≡ with_document w v d
loaded_world w v d used ds ks documents all e = λ i. record w { documents = documents i; keys = (all ∙ ap (λ k. w.keys ++ (k, w.count) ∷ []) e) i; count = w.count + 1 }

pub started_world : (w : World) (i : Instance) (id : List ℕ) (used : Key) (is : List Instance) (now : ℕ) (ks : List (Key × ℕ)) → is ≡ w.instances ++ i ∷ [] → now ≡ w.now → ks ≡ w.keys ++ (used, w.count) ∷ [] → used ≡ keys.Instance id → id ≡ i.id →
    record w { instances = is; keys = ks; now = now; count = w.count + 1 } ≡ with_instance w i
started_world w i id used is now ks instances still all e own = λ j. record w { instances = instances j; keys = (all ∙ ap (λ k. w.keys ++ (k, w.count) ∷ []) (e ∙ ap keys.Instance own)) j; now = still j; count = w.count + 1 }
