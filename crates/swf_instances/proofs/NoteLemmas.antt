-- What is noted of what instances listen for, and of which it is not.
use Rattle.std.proofs.Common.{◌≡◌, ◌∙◌, ap, sym, refl, subst, Bool, ℕ, zero, suc, ◌+◌, ◌<◌, ◌==◌, ◌||◌, inl, inr, List, [], ◌∷◌, ◌++◌, length, drop, true, false, Some, slice_get, arith, length-append}
use Rattle.std.specs.Prelude.{slice_set}
use Rattle.std.proofs.lemmas.Bool.{cases_eq, eq-eqb, ne_eqb, or_parts, or_from}
use Rattle.std.proofs.lemmas.List.Folds.{list_any-append}
use Rattle.std.proofs.lemmas.Option.{same_Some}
use Rattle.swf_listeners.specs.Listeners.{wanted_by}
use Rattle.swf_listeners.specs.Wanted.{Wanted, nothing, wanted_of}
use Rattle.swf_listeners.proofs.WantedLemmas.{wants_nothing}
use Rattle.swf_meaning.specs.World.{Instance}
use Rattle.swf_offers.specs.EventTypes.{event_types}
use Rattle.swf_queue.specs.Queue.{Queue, is_among}
use Rattle.swf_instances.specs.Kept.{Listening}
use Rattle.swf_instances.specs.Offers.{put_at}
use Rattle.swf_instances.proofs.QueuedLemmas.{length_put}

-- the others are as they were
others_put : (n m : ℕ) (j : Instance) (is : List Instance) → (m ≡ n → ⊥) → slice_get (put_at n j is) m ≡ slice_get is m
others_put n m j [] other = refl
others_put zero zero j (i ∷ is) other = absurd (other refl)
others_put zero (suc m) j (i ∷ is) other = refl
others_put (suc n) zero j (i ∷ is) other = refl
others_put (suc n) (suc m) j (i ∷ is) other = others_put n m j is (λ e. other (ap suc e))

-- one that is put in a place is stale
pub noted_stale : (is : List Instance) (wanted : List Wanted) (stale next : Queue) (n : ℕ) (j : Instance) → Listening is wanted stale → ((m : ℕ) → is_among m next.numbers ≡ (is_among m stale.numbers || (m == n))) → next.count ≡ stale.count → Listening (put_at n j is) wanted next
noted_stale is wanted stale next n j l among count = record {
  many = l.many ∙ sym (length_put is n j);
  count = count ∙ l.count ∙ sym (length_put is n j);
  noted = λ m i at gone.
      let p = or_parts (is_among m stale.numbers) (m == n) (sym (among m) ∙ gone) in
      let other : m ≡ n → ⊥ = λ e. let f : true ≡ false = sym (eq-eqb m n e) ∙ p.1 in cc in
      l.noted m i (sym (others_put n m j is other) ∙ at) p.0;
}

own_put : (n : ℕ) (j k : Instance) (is : List Instance) → slice_get (put_at n j is) n ≡ Some k → k ≡ j
own_put n j k [] at = cc
own_put zero j k (i ∷ is) at = sym (same_Some j k at)
own_put (suc n) j k (i ∷ is) at = own_put n j k is at

-- one that wanted nothing, and listens for nothing after its step, is noted as it was
noted_same : (is : List Instance) (wanted : List Wanted) (stale : Queue) (n : ℕ) (i j : Instance) → Listening is wanted stale → slice_get is n ≡ Some i → wanted_by wanted n ≡ nothing → (event_types i.node ≡ [] → event_types j.node ≡ []) → Listening (put_at n j is) wanted stale
noted_same is wanted stale n i j l there none after = record {
  many = l.many ∙ sym (length_put is n j);
  count = l.count ∙ sym (length_put is n j);
  noted = λ m k at gone. elim (cases_eq m n) [
    | inl e ↦
        let own : k ≡ j = own_put n j k is (ap (slice_get (put_at n j is)) (sym e) ∙ at) in
        let before : event_types i.node ≡ [] = wants_nothing (event_types i.node) (sym (l.noted n i there (ap (λ x. is_among x stale.numbers) (sym e) ∙ gone)) ∙ none) in
        ap (wanted_by wanted) e ∙ none ∙ sym (ap (λ (x : Instance). wanted_of (event_types x.node)) own ∙ ap wanted_of (after before))
    | inr other ↦ l.noted m k (sym (others_put n m j is other) ∙ at) gone
  ];
}

-- one that takes a step is noted anew, unless it wanted nothing and goes on to
pub noted_later : (is : List Instance) (wanted : List Wanted) (stale next : Queue) (n : ℕ) (i j : Instance) (may_change : Bool) → Listening is wanted stale → slice_get is n ≡ Some i → next.count ≡ stale.count →
    (may_change ≡ true → (m : ℕ) → is_among m next.numbers ≡ (is_among m stale.numbers || (m == n))) → (may_change ≡ false → next ≡ stale) → (may_change ≡ false → wanted_by wanted n ≡ nothing) →
    (may_change ≡ false → event_types i.node ≡ [] → event_types j.node ≡ []) → Listening (put_at n j is) wanted next
noted_later is wanted stale next n i j true l there count among same none after = noted_stale is wanted stale next n j l (among refl) count
noted_later is wanted stale next n i j false l there count among same none after = subst (Listening (put_at n j is) wanted) (sym (same refl)) (noted_same is wanted stale n i j l there (none refl) (after refl))

set_own : (ws : List Wanted) (n : ℕ) (w : Wanted) → n < length ws → wanted_by (slice_set ws n w) n ≡ w
set_own [] n w e = absurd (omega arith)
set_own (x ∷ ws) zero w e = refl
set_own (x ∷ ws) (suc n) w e = set_own ws n w (omega arith)

set_other : (ws : List Wanted) (n m : ℕ) (w : Wanted) → (m ≡ n → ⊥) → wanted_by (slice_set ws n w) m ≡ wanted_by ws m
set_other [] n m w other = refl
set_other (x ∷ ws) zero zero w other = absurd (other refl)
set_other (x ∷ ws) zero (suc m) w other = refl
set_other (x ∷ ws) (suc n) zero w other = refl
set_other (x ∷ ws) (suc n) (suc m) w other = set_other ws n m w (λ e. other (ap suc e))

set_length : (ws : List Wanted) (n : ℕ) (w : Wanted) → length (slice_set ws n w) ≡ length ws
set_length [] n w = refl
set_length (x ∷ ws) zero w = refl
set_length (x ∷ ws) (suc n) w = ap suc (set_length ws n w)

left_among : (m n : ℕ) (ns : List ℕ) → slice_get ns 0 ≡ Some n → is_among m (drop 1 ns) ≡ false → (m ≡ n → ⊥) → is_among m ns ≡ false
left_among m n [] e gone other = refl
left_among m n (k ∷ ns) e gone other = or_from (m == k) (is_among m ns) (ne_eqb m k (λ f. other (f ∙ same_Some k n e))) gone

pub first_among : (n : ℕ) (ns : List ℕ) → slice_get ns 0 ≡ Some n → is_among n ns ≡ true
first_among n [] e = cc
first_among n (k ∷ ns) e = ap (λ b. b || is_among n ns) (eq-eqb n k (sym (same_Some k n e)))

-- the first of the stale ones was noted
pub noted_left : (is : List Instance) (wanted : List Wanted) (stale next : Queue) (n : ℕ) (i : Instance) → Listening is wanted stale → slice_get stale.numbers 0 ≡ Some n → n < length is → slice_get is n ≡ Some i → next.numbers ≡ drop 1 stale.numbers → next.count ≡ stale.count →
    Listening is (slice_set wanted n (wanted_of (event_types i.node))) next
noted_left is wanted stale next n i l first within there rest count = record {
  many = set_length wanted n _ ∙ l.many;
  count = count ∙ l.count;
  noted = λ m j at gone. elim (cases_eq m n) [
    | inl e ↦ ap (wanted_by (slice_set wanted n (wanted_of (event_types i.node)))) e ∙ set_own wanted n _ (omega (arith, within, l.many)) ∙ ap (λ k. wanted_of (event_types k.node)) (same_Some i j (sym there ∙ ap (slice_get is) (sym e) ∙ at))
    | inr other ↦ set_other wanted n m _ other ∙ l.noted m j at (left_among m n stale.numbers first (sym (ap (is_among m) rest) ∙ gone) other)
  ];
}

new_at : (ws : List Wanted) (n : ℕ) → wanted_by (ws ++ nothing ∷ []) n ≡ wanted_by ws n
new_at [] zero = refl
new_at [] (suc n) = refl
new_at (w ∷ ws) zero = refl
new_at (w ∷ ws) (suc n) = new_at ws n

old_at : (is : List Instance) (j : Instance) (n : ℕ) (i : Instance) → slice_get (is ++ j ∷ []) n ≡ Some i → (n ≡ length is → ⊥) → slice_get is n ≡ Some i
old_at [] j zero i e other = absurd (other refl)
old_at [] j (suc n) i e other = cc
old_at (x ∷ is) j zero i e other = e
old_at (x ∷ is) j (suc n) i e other = old_at is j n i e (λ f. other (ap suc f))

-- a new one is stale
pub noted_pushed : (is : List Instance) (wanted : List Wanted) (stale next : Queue) (i : Instance) → Listening is wanted stale → next.numbers ≡ stale.numbers ++ stale.count ∷ [] → next.count ≡ stale.count + 1 → Listening (is ++ i ∷ []) (wanted ++ nothing ∷ []) next
noted_pushed is wanted stale next i l numbers count = record {
  many = length-append wanted (nothing ∷ []) ∙ ap (λ n. n + 1) l.many ∙ sym (length-append is (i ∷ []));
  count = count ∙ ap (λ n. n + 1) l.count ∙ sym (length-append is (i ∷ []));
  noted = λ m j at gone.
      let p = or_parts (is_among m stale.numbers) ((m == stale.count) || false) (sym (ap (is_among m) numbers ∙ list_any-append (λ k. m == k) stale.numbers (stale.count ∷ [])) ∙ gone) in
      let other : m ≡ length is → ⊥ = λ e. let f : true ≡ false = sym (eq-eqb m stale.count (e ∙ sym l.count)) ∙ (or_parts (m == stale.count) false p.1).0 in cc in
      new_at wanted m ∙ l.noted m j (old_at is i m j at other) p.0;
}
