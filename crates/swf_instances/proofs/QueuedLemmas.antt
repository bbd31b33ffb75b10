-- Which instances can take a step, by what is read at their numbers, and how the queue keeps them.
use Rattle.std.proofs.Common.{◌≡◌, ◌∙◌, ap, sym, refl, subst, ℕ, zero, suc, ◌<◌, ◌||◌, ◌==◌, ◌⊎◌, inl, inr, List, [], ◌∷◌, ◌++◌, length, take, drop, Bool, true, false, not, is_some, Option, Some, None, Result, Ok, Err, option_map, slice_get, IfOk, IfSome, arith}
use Rattle.std.proofs.lemmas.Option.{slice_get-map, same_Some}
use Rattle.std.proofs.lemmas.Bool.{eqb-true, eq-eqb, or_cases, or_from, or_left, or_right, false_from_ne_true}
use Rattle.std.proofs.lemmas.Bool.Decides.{Decides-eqb}
use Rattle.std.proofs.lemmas.List.Folds.{list_any-append}
use Rattle.std.specs.Option.{IfNone}
use Rattle.swf_meaning.specs.Local.{is_enabled}
use Rattle.swf_meaning.specs.World.{Instance}
use Rattle.swf_strands.specs.Order.{IsNext}
use Rattle.swf_listeners.specs.Wanted.{Wanted}
use Rattle.swf_queue.specs.Queue.{Queue, is_among}
use Rattle.swf_instances.specs.Held.{instances_in}
use Rattle.swf_instances.specs.Kept.{Kept}
use Rattle.swf_instances.specs.Offers.{put_at}
use Rattle.swf_instances.specs.Queued.{Queued, IsNextAt, enabled_at, is_loud}
use Rattle.swf_instances.proofs.Lookups.{instance_there}

pub enabled_there : (now : ℕ) (is : List Instance) (n : ℕ) (i : Instance) → slice_get is n ≡ Some i → enabled_at now is n ≡ is_enabled now i.node
enabled_there now [] n i e = cc
enabled_there now (x ∷ xs) zero i e = ap (λ i. is_enabled now i.node) (same_Some x i e)
enabled_there now (x ∷ xs) (suc n) i e = enabled_there now xs n i e

-- the value of an entry
pub entry_value : (is : List (List ℕ × Instance)) (n : ℕ) (id : List ℕ) (v : Instance) → Some (id, v) ≡ slice_get is n → slice_get (instances_in is) n ≡ Some v
entry_value is n id v e = instance_there is n v (slice_get-map (λ e. e.1) is n ∙ ap (option_map (λ e. e.1)) (sym e))

pub entry_enabled : (now : ℕ) (is : List (List ℕ × Instance)) (n : ℕ) (id : List ℕ) (v : Instance) → Some (id, v) ≡ slice_get is n → is_enabled now v.node ≡ enabled_at now (instances_in is) n
entry_enabled now is n id v e = sym (enabled_there now (instances_in is) n v (entry_value is n id v e))

pub past_enabled : (now : ℕ) (is : List (List ℕ × Instance)) (n : ℕ) → None ≡ slice_get is n → false ≡ enabled_at now (instances_in is) n
past_enabled now [] n e = refl
past_enabled now (x ∷ xs) zero e = cc
past_enabled now (x ∷ xs) (suc n) e = past_enabled now xs n e

next_of : (now : ℕ) (is : List Instance) (n : ℕ) (i : Instance) (o : Option (List ℕ)) → slice_get is n ≡ Some i → IsNext now i.node o → IsNextAt now is n o
next_of now is n i None at next = enabled_there now is n i at ∙ next
next_of now is n i (Some strand) at next = (i, at, next)

-- the strand of an instance that can take a step is that of its number
pub next_at : {E : Type 0} (now : ℕ) (is : List Instance) (n : ℕ) (i : Instance) (r : Result (Option (List ℕ)) E) → slice_get is n ≡ Some i → IfOk r (IsNext now i.node) → IfOk r (IsNextAt now is n)
next_at now is n i (Ok o) at next = next_of now is n i o at next
next_at now is n i (Err e) at next = tt

-- nothing is enabled where the queue is empty
pub quiet_without : (now : ℕ) (is : List Instance) → Queued now is [] → is_loud now is ≡ false
quiet_without now is q = none is (λ n e. let h = q.all n e in cc)
  where
    none : (is : List Instance) → ((n : ℕ) → enabled_at now is n ≡ true → ⊥) → is_loud now is ≡ false
    none [] h = refl
    none (i ∷ is) h = or_from (is_enabled now i.node) (is_loud now is) (false_from_ne_true (is_enabled now i.node) (h 0)) (none is (λ n. h (suc n)))

loud_with : (now : ℕ) (is : List Instance) (n : ℕ) → enabled_at now is n ≡ true → is_loud now is ≡ true
loud_with now [] n e = cc
loud_with now (i ∷ is) zero e = or_left (is_enabled now i.node) (is_loud now is) e
loud_with now (i ∷ is) (suc n) e = or_right (is_enabled now i.node) (is_loud now is) (loud_with now is n e)

-- an instance that cannot take a step leaves the queue
queued_popped : (now : ℕ) (is : List Instance) (n : ℕ) (queue : List ℕ) → enabled_at now is n ≡ false → Queued now is (n ∷ queue) → Queued now is queue
queued_popped now is n queue gone q = record {
  all = λ m e. elim (or_cases (m == n) (is_among m queue) (q.all m e)) [
    | inl h ↦ let f : true ≡ false = sym e ∙ ap (enabled_at now is) (eqb-true m n h) ∙ gone in cc
    | inr h ↦ h
  ];
}

-- the same of the first of the queue
pub queued_left : (now : ℕ) (is : List Instance) (queue rest : List ℕ) (n : ℕ) → slice_get queue 0 ≡ Some n → rest ≡ drop 1 queue → enabled_at now is n ≡ false → Queued now is queue → Queued now is rest
queued_left now is [] rest n e r gone q = cc
queued_left now is (m ∷ ms) rest n e r gone q =
    subst (λ queue. Queued now is queue) (sym r) (queued_popped now is m ms (ap (enabled_at now is) (same_Some m n e) ∙ gone) q)

-- the first in the queue goes behind all others
pub queued_rotated : (now : ℕ) (is : List Instance) (queue : List ℕ) → 0 < length queue → Queued now is queue → Queued now is (drop 1 queue ++ take 1 queue)
queued_rotated now is [] w q = absurd (omega arith)
queued_rotated now is (n ∷ queue) w q = record {
  all = λ m e. moved m ∙ q.all m e;
}
  where
    or_swap : (a b : Bool) → (b || (a || false)) ≡ (a || b)
    or_swap true true = refl
    or_swap true false = refl
    or_swap false true = refl
    or_swap false false = refl

    moved : (m : ℕ) → is_among m (queue ++ n ∷ []) ≡ is_among m (n ∷ queue)
    moved m = list_any-append (λ k. m == k) queue (n ∷ []) ∙ or_swap (m == n) (is_among m queue)

-- the answer of a look through the queue is whether all is quiet
pub quiet_is : (now : ℕ) (is : List Instance) (queue : List ℕ) (o : Option ℕ) (b : Bool) → Queued now is queue → IfNone o (queue ≡ []) → IfSome o (λ n. enabled_at now is n ≡ true) → is_some o ≡ not b → b ≡ not (is_loud now is)
quiet_is now is queue None false q none some e = cc
quiet_is now is queue None true q none some e = sym (ap not (quiet_without now is (subst (λ queue. Queued now is queue) none q)))
quiet_is now is queue (Some n) true q none some e = cc
quiet_is now is queue (Some n) false q none some e = sym (ap not (loud_with now is n some))

-- another order of the queue agrees with the instances too
pub kept_ordered : (es : List (List ℕ × Instance)) (now : ℕ) (queue next : Queue) (alarms : List (Option ℕ)) (wanted : List Wanted) (stale : Queue) → Kept es now queue alarms wanted stale → next.count ≡ queue.count → Queued now (instances_in es) next.numbers → Kept es now next alarms wanted stale
kept_ordered es now queue next alarms wanted stale kept count queued = record {
  held = kept.held;
  waiting = record { queued = queued; count = count ∙ kept.waiting.count; own = kept.waiting.own };
  listening = kept.listening;
}

-- another instance in a place makes no other one enabled
enabled_put : (now : ℕ) (is : List Instance) (n m : ℕ) (j : Instance) → enabled_at now (put_at n j is) m ≡ true → (m ≡ n) ⊎ (enabled_at now is m ≡ true)
enabled_put now [] n m j h = cc
enabled_put now (i ∷ is) zero zero j h = inl refl
enabled_put now (i ∷ is) zero (suc m) j h = inr h
enabled_put now (i ∷ is) (suc n) zero j h = inr h
enabled_put now (i ∷ is) (suc n) (suc m) j h = elim (enabled_put now is n m j h) [ inl e ↦ inl (ap suc e) | inr e ↦ inr e ]

pub length_put : (is : List Instance) (n : ℕ) (j : Instance) → length (put_at n j is) ≡ length is
length_put [] n j = refl
length_put (i ∷ is) zero j = refl
length_put (i ∷ is) (suc n) j = ap suc (length_put is n j)

-- an instance that stands in the queue is put in its place
pub queued_put : (now : ℕ) (is : List Instance) (queue next : List ℕ) (n : ℕ) (j : Instance) → ((m : ℕ) → is_among m next ≡ (is_among m queue || (m == n))) → Queued now is queue → Queued now (put_at n j is) next
queued_put now is queue next n j among q = record {
  all = λ m h. among m ∙ elim (enabled_put now is n m j h) [
    | inl e ↦ or_right (is_among m queue) (m == n) (eq-eqb m n e)
    | inr e ↦ or_left (is_among m queue) (m == n) (q.all m e)
  ];
}

enabled_pushed : (now : ℕ) (xs : List Instance) (x : Instance) (m : ℕ) → enabled_at now (xs ++ x ∷ []) m ≡ true → (enabled_at now xs m ≡ true) ⊎ (m ≡ length xs)
enabled_pushed now [] x zero e = inr refl
enabled_pushed now [] x (suc m) e = cc
enabled_pushed now (y ∷ ys) x zero e = inl e
enabled_pushed now (y ∷ ys) x (suc m) e = elim (enabled_pushed now ys x m e) [ inl h ↦ inl h | inr h ↦ inr (ap suc h) ]

-- a new instance stands behind all others
pub queued_pushed : (now : ℕ) (xs : List Instance) (x : Instance) (queue : List ℕ) (n : ℕ) → n ≡ length xs → Queued now xs queue → Queued now (xs ++ x ∷ []) (queue ++ n ∷ [])
queued_pushed now xs x queue n e q = record {
  all = λ m h. list_any-append (λ k. m == k) queue (n ∷ [])
      ∙ elim (enabled_pushed now xs x m h) [
        | inl g ↦ or_left (is_among m queue) ((m == n) || false) (q.all m g)
        | inr g ↦ or_right (is_among m queue) ((m == n) || false) (or_left (m == n) false ((Decides-eqb m n).1 (g ∙ sym e)))
      ];
}
