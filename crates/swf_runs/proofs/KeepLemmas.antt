-- What the world of a legal run keeps.
use Rattle.std.proofs.Common.{◌≡◌, ◌∙◌, refl, ap, sym, subst, ℕ, ◌≤◌, ◌<◌, length, ◌⊎◌, inl, inr, List, [], ◌∷◌, ◌++◌, Bool, true, false, not, ◌||◌, Some, arith}
use Rattle.std.proofs.lemmas.Bool.{and_parts, and_from, or_parts, or_cases, false_from_ne_true, both_ways}
use Rattle.std.proofs.lemmas.List.{map-append}
use Rattle.std.proofs.lemmas.List.Folds.{list_any-append}
use Rattle.std.specs.List.{AllByRecursion}
use Rattle.swf_text.specs.Same.{same}
use Rattle.swf_text.proofs.SameLemmas.{same_true, same_refl}
use Rattle.swf_meaning.specs.World.{World, empty, new_instance}
use Rattle.swf_meaning.specs.declared.key.Key.TheVariants.{Instance as OfInstance}
use Rattle.swf_meaning.specs.declared.label.Label.{Label}
use Rattle.swf_runs.specs.After.{is_used, after, most_instances}
use Rattle.swf_runs.specs.Keys.{key_of}
use Rattle.swf_runs.specs.Kept.{ids, is_one_of, are_apart, IsWorld}
use Rattle.swf_runs.specs.Runs.{world_at, Legal}
use Rattle.swf_runs.proofs.OnceLemmas.{still_used, after_grown, timed_after}
use Rattle.swf_runs.proofs.WorldLemmas.{Change, Kept, Began, Heard, Answered, Took, change, change_all, all_weaker, one_keeps, now_after, map_offered, map_replied, map_sent, map_taken, legal_keeps}

-- the ids are those before, or there is one behind them that was not used and is, and for which there was room
abbrev pub IdsAfter : World → World → Type 0
IdsAfter w m = (ids m.instances ≡ ids w.instances) ⊎ ((id : List ℕ) × (is_used (OfInstance id) w ≡ false) × (is_used (OfInstance id) m ≡ true) × (ids m.instances ≡ ids w.instances ++ id ∷ []) × (length w.instances < most_instances))

pub ids_after : (w m : World) → Change w m → IdsAfter w m
ids_after w m (Kept e later) = inl (ap ids e)
ids_after w m (Began id input d unused used room e now) = inr (id, unused, used, ap ids e ∙ map-append (λ i. i.id) w.instances (new_instance id input w.now d ∷ []), room)
ids_after w m (Heard x e now) = inl (ap ids e ∙ map_offered (λ i. i.id) x (λ i. refl) w.instances)
ids_after w m (Answered a r e now) = inl (ap ids e ∙ map_replied (λ i. i.id) a r (λ i. refl) w.instances)
ids_after w m (Took id strand js s e now) = inl (ap ids e ∙ map_sent (λ i. i.id) (λ x i. refl) js.1 js.0 ∙ map_taken (λ i. i.id) (λ i m. refl) w.now w.documents id strand w.instances js s)

same_turned : (x y : List ℕ) → same x y ≡ false → same y x ≡ false
same_turned x y f = false_from_ne_true (same y x) (λ t. both_ways (same x y) f (subst (λ z. same x z ≡ true) (sym (same_true y x t)) (same_refl x)))

-- one more id that is not among them
apart_more : (xs : List (List ℕ)) (id : List ℕ) → are_apart xs ≡ true → is_one_of id xs ≡ false → are_apart (xs ++ id ∷ []) ≡ true
apart_more [] id a n = refl
apart_more (x ∷ xs) id a n =
    let h = and_parts (not (is_one_of x xs)) (are_apart xs) a in
    let p = or_parts (same id x) (is_one_of id xs) n in
    and_from (not (is_one_of x (xs ++ id ∷ []))) (are_apart (xs ++ id ∷ []))
    (ap not (list_any-append (same x) xs (id ∷ []) ∙ ap (λ b. is_one_of x xs || (b || false)) (same_turned id x p.0)) ∙ kept (is_one_of x xs) h.0)
    (apart_more xs id h.1 p.1)
  where
    kept : (b : Bool) → not b ≡ true → not (b || false) ≡ true
    kept true e = cc
    kept false e = refl

apart_after : (w m : World) → IsWorld w → IdsAfter w m → are_apart (ids m.instances) ≡ true
apart_after w m x (inl e) = ap are_apart e ∙ x.apart
apart_after w m x (inr h) =
    ap are_apart h.3 ∙ apart_more (ids w.instances) h.0 x.apart (false_from_ne_true (is_one_of h.0 (ids w.instances)) (λ t. both_ways (is_used (OfInstance h.0) w) h.1 (x.used h.0 t)))

used_after : (w m : World) → IsWorld w → ((id : List ℕ) → is_used (OfInstance id) w ≡ true → is_used (OfInstance id) m ≡ true) → IdsAfter w m → (id : List ℕ) → is_one_of id (ids m.instances) ≡ true → is_used (OfInstance id) m ≡ true
used_after w m x still (inl e) id t = still id (x.used id (sym (ap (is_one_of id) e) ∙ t))
used_after w m x still (inr h) id t =
    let two : (is_one_of id (ids w.instances) || (same id h.0 || false)) ≡ true = sym (ap (is_one_of id) h.3 ∙ list_any-append (same id) (ids w.instances) (h.0 ∷ [])) ∙ t in
    elim (or_cases (is_one_of id (ids w.instances)) (same id h.0 || false) two) [
      | inl a ↦ still id (x.used id a)
      | inr b ↦ subst (λ y. is_used (OfInstance y) m ≡ true) (sym (same_true id h.0 (only (same id h.0) b))) h.2
    ]
  where
    only : (b : Bool) → (b || false) ≡ true → b ≡ true
    only true e = refl
    only false e = e

-- none started after now, which does not fall
started_after : (w m : World) → AllByRecursion (λ i. i.started ≤ w.now) w.instances → Change w m → w.now ≤ m.now → AllByRecursion (λ i. i.started ≤ m.now) m.instances
started_after w m all c later =
    change_all (λ i. i.started ≤ m.now) w m (λ id input d. later) (λ now ds strand i x s h. h) (λ e i h. h) (λ a r i h. one_keeps (λ i. i.started ≤ m.now) a r i h h)
    (all_weaker (λ i. i.started ≤ w.now) (λ i. i.started ≤ m.now) (λ i h. omega (arith, h, later)) w.instances all) c

kept_after : (w m : World) (l : Label) → IsWorld w → after w l ≡ Some m → IsWorld m
kept_after w m l x e =
    let c = change w m l e in
    let f = ids_after w m c in
    record {
      apart = apart_after w m x f;
      used = used_after w m x (λ id. still_used (key_of l) w m (OfInstance id) (after_grown w m l x.timed e)) f;
      started = started_after w m x.started c (now_after w m c);
      timed = timed_after w m l x.timed e;
    }

empty_keeps : IsWorld empty
empty_keeps = record { apart = refl; used = λ id e. cc; started = tt; timed = λ t e. cc }

pub legal_world : (h : List Label) → Legal h → IsWorld (world_at h)
legal_world h legal = legal_keeps IsWorld kept_after empty_keeps h legal
