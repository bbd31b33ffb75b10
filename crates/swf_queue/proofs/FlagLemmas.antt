-- The flags of a queue, as numbers come and leave.
use Rattle.std.proofs.Common.{◌≡◌, ◌∙◌, refl, ap, sym, subst, ℕ, zero, suc, ◌<◌, ◌≤◌, ◌==◌, ◌||◌, inl, inr, List, [], ◌∷◌, ◌++◌, length, get_or, Bool, true, false, arith}
use Rattle.std.proofs.Math.ListN.{set}
use Rattle.std.proofs.lemmas.Bool.{eq-eqb, ne_eqb, or_from, or_left, cases_eq, cases_Bool}
use Rattle.std.proofs.lemmas.List.{get_or-set_other, get_or-set_same, length-set, length-append}
use Rattle.std.proofs.lemmas.List.Folds.{list_any-append}
use Rattle.std.proofs.lemmas.List.Sorted.{list_any-IsPermutation}
use Rattle.std.proofs.lemmas.Map.Keys.{IsDistinct-push, IsDistinct-head, IsDistinct-tail, IsDistinct-IsPermutation}
use Rattle.std.proofs.lemmas.Map.Steps.{length-le_from_distinct_below}
use Rattle.std.specs.Cmp.{nat_eq_equiv}
use Rattle.std.specs.List.{AllByRecursion, IsDistinct}
use Rattle.std.specs.List.Sorted.{IsPermutation}
use Rattle.std.specs.Prelude.{nat_eq}
use Rattle.swf_queue.specs.Queue.{is_among, put, AreFlagged}

or_false : (a : Bool) → (a || false) ≡ a
or_false true = refl
or_false false = refl

-- one number more
pub among_pushed : (m n : ℕ) (queue : List ℕ) → is_among m (queue ++ n ∷ []) ≡ (is_among m queue || (m == n))
among_pushed m n queue = list_any-append (λ k. m == k) queue (n ∷ []) ∙ ap (λ b. is_among m queue || b) (or_false (m == n))

-- a number that is not there comes, and one that is there does not come again
pub put_new : (n : ℕ) (queue : List ℕ) → is_among n queue ≡ false → queue ++ n ∷ [] ≡ put n queue
put_new n queue e = rw e refl

pub put_there : (n : ℕ) (queue : List ℕ) → is_among n queue ≡ true → queue ≡ put n queue
put_there n queue e = rw e refl

-- a number that is there, or comes, is among them
pub among_put : (m n : ℕ) (queue : List ℕ) → is_among m (put n queue) ≡ (is_among m queue || (m == n))
among_put m n queue = elim (cases_Bool (is_among n queue)) [
  | inl e ↦ ap (is_among m) (sym (put_there n queue e)) ∙ same e
  | inr e ↦ ap (is_among m) (sym (put_new n queue e)) ∙ among_pushed m n queue
]
  where
    same : is_among n queue ≡ true → is_among m queue ≡ (is_among m queue || (m == n))
    same e = elim (cases_eq m n) [
      | inl h ↦ let t : is_among m queue ≡ true = ap (λ k. is_among k queue) h ∙ e in t ∙ sym (or_left (is_among m queue) (m == n) t)
      | inr h ↦ sym (ap (λ b. is_among m queue || b) (ne_eqb m n h) ∙ or_false (is_among m queue))
    ]

known_flag : (fs : List Bool) (n : ℕ) → get_or fs n false ≡ true → n < length fs
known_flag [] n e = cc
known_flag (f ∷ fs) zero e = omega arith
known_flag (f ∷ fs) (suc n) e = omega (arith, known_flag fs n e)

-- a number that is there has a flag
pub known : (queue : List ℕ) (fs : List Bool) (places : ℕ) → AreFlagged queue fs places → (n : ℕ) → is_among n queue ≡ true → n < length fs
known queue fs places f n e = known_flag fs n (sym (f.there n) ∙ e)

-- the queue is no longer than there are flags
pub fits : (queue : List ℕ) (fs : List Bool) (places : ℕ) → AreFlagged queue fs places → length queue ≤ length fs
fits queue fs places f = length-le_from_distinct_below queue (length fs) f.distinct (known queue fs places f)

-- and shorter where a flag is not set
pub fits_more : (queue : List ℕ) (fs : List Bool) (places n : ℕ) → AreFlagged queue fs places → n < length fs → get_or fs n false ≡ false → length queue < length fs
fits_more queue fs places n f w e =
    let l : length (queue ++ n ∷ []) ≤ length fs = length-le_from_distinct_below (queue ++ n ∷ []) (length fs) (IsDistinct-push nat_eq_equiv queue n f.distinct (f.there n ∙ e)) below in
    omega (arith, l, length-append queue (n ∷ []))
  where
    below : (m : ℕ) → is_among m (queue ++ n ∷ []) ≡ true → m < length fs
    below m g = elim (cases_eq m n) [
      | inl h ↦ omega (arith, h, w)
      | inr h ↦ known queue fs places f m (sym (or_false (is_among m queue)) ∙ sym (ap (λ b. is_among m queue || b) (ne_eqb m n h)) ∙ sym (among_pushed m n queue) ∙ g)
    ]

none_distinct : IsDistinct nat_eq []
unfolding IsDistinct
none_distinct = tt

-- of no instance
pub flagged_none : (queue : List ℕ) (fs : List Bool) (places : ℕ) → queue ≡ [] → fs ≡ [] → AreFlagged queue fs places
flagged_none queue fs places e g = subst (λ q. AreFlagged q fs places) (sym e) (subst (λ l. AreFlagged [] l places) (sym g) none)
  where
    none : AreFlagged [] [] places
    none = record { distinct = none_distinct; there = λ n. refl; enough = omega arith }

-- a number comes whose flag was not set
pub flagged_put : (queue : List ℕ) (fs : List Bool) (places n : ℕ) → AreFlagged queue fs places → n < length fs → get_or fs n false ≡ false → AreFlagged (queue ++ n ∷ []) (set fs n true) places
flagged_put queue fs places n f w e = record {
  distinct = IsDistinct-push nat_eq_equiv queue n f.distinct (f.there n ∙ e);
  there = λ m. among_pushed m n queue ∙ elim (cases_eq m n) [
    | inl h ↦ or_right_true m h ∙ sym (ap (λ k. get_or (set fs n true) k false) h ∙ get_or-set_same fs n true false w)
    | inr h ↦ ap (λ b. is_among m queue || b) (ne_eqb m n h) ∙ or_false (is_among m queue) ∙ f.there m ∙ sym (get_or-set_other fs n m true false h)
  ];
  enough = omega (arith, f.enough, length-set fs n true);
}
  where
    or_true : (a : Bool) → (a || true) ≡ true
    or_true true = refl
    or_true false = refl

    or_right_true : (m : ℕ) → m ≡ n → (is_among m queue || (m == n)) ≡ true
    or_right_true m h = ap (λ b. is_among m queue || b) (eq-eqb m n h) ∙ or_true (is_among m queue)

-- the number of a new instance comes
pub flagged_added : (queue : List ℕ) (fs : List Bool) (places : ℕ) → AreFlagged queue fs places → length fs < places → AreFlagged (queue ++ length fs ∷ []) (fs ++ true ∷ []) places
flagged_added queue fs places f w = record {
  distinct = IsDistinct-push nat_eq_equiv queue (length fs) f.distinct (f.there (length fs) ∙ past fs);
  there = λ m. among_pushed m (length fs) queue ∙ ap (λ b. b || (m == length fs)) (f.there m) ∙ one_more fs m;
  enough = omega (arith, w, length-append fs (true ∷ []));
}
  where
    past : (fs : List Bool) → get_or fs (length fs) false ≡ false
    past [] = refl
    past (x ∷ fs) = past fs

    at_end : (fs : List Bool) → get_or (fs ++ true ∷ []) (length fs) false ≡ true
    at_end [] = refl
    at_end (x ∷ fs) = at_end fs

    elsewhere : (fs : List Bool) (m : ℕ) → (m ≡ length fs → ⊥) → get_or (fs ++ true ∷ []) m false ≡ get_or fs m false
    elsewhere [] zero h = absurd (h refl)
    elsewhere [] (suc m) h = refl
    elsewhere (x ∷ fs) zero h = refl
    elsewhere (x ∷ fs) (suc m) h = elsewhere fs m (λ e. h (ap suc e))

    or_true : (a : Bool) → (a || true) ≡ true
    or_true true = refl
    or_true false = refl

    one_more : (fs : List Bool) (m : ℕ) → (get_or fs m false || (m == length fs)) ≡ get_or (fs ++ true ∷ []) m false
    one_more fs m = elim (cases_eq m (length fs)) [
      | inl h ↦ ap (λ b. get_or fs m false || b) (eq-eqb m (length fs) h) ∙ or_true (get_or fs m false) ∙ sym (ap (λ k. get_or (fs ++ true ∷ []) k false) h ∙ at_end fs)
      | inr h ↦ ap (λ b. get_or fs m false || b) (ne_eqb m (length fs) h) ∙ or_false (get_or fs m false) ∙ sym (elsewhere fs m h)
    ]

none_among : (k : ℕ) (rest : List ℕ) → AllByRecursion (λ y. nat_eq k y ≡ false) rest → is_among k rest ≡ false
none_among k [] h = refl
none_among k (n ∷ rest) h = or_from (k == n) (is_among k rest) h.0 (none_among k rest h.1)

unset : (fs : List Bool) (k : ℕ) → get_or (set fs k false) k false ≡ false
unset [] k = refl
unset (f ∷ fs) zero = refl
unset (f ∷ fs) (suc k) = unset fs k

-- the first number has a flag
pub first_flagged : (queue rest : List ℕ) (fs : List Bool) (places k : ℕ) → queue ≡ k ∷ rest → AreFlagged queue fs places → k < length fs
first_flagged queue rest fs places k e f = known queue fs places f k (ap (is_among k) e ∙ or_left (k == k) (is_among k rest) (eq-eqb k k refl))

-- the first number leaves
pub flagged_left : (queue rest : List ℕ) (fs : List Bool) (places k : ℕ) → queue ≡ k ∷ rest → AreFlagged queue fs places → AreFlagged rest (set fs k false) places
flagged_left queue rest fs places k e f = record {
  distinct = IsDistinct-tail nat_eq k rest distinct;
  there = λ n. elim (cases_eq n k) [
    | inl h ↦ ap (λ m. is_among m rest) h ∙ none_among k rest (IsDistinct-head nat_eq k rest distinct) ∙ sym (ap (λ m. get_or (set fs k false) m false) h ∙ unset fs k)
    | inr h ↦ sym (ap (λ b. b || is_among n rest) (ne_eqb n k h)) ∙ sym (ap (is_among n) e) ∙ f.there n ∙ sym (get_or-set_other fs k n false false h)
  ];
  enough = omega (arith, f.enough, length-set fs k false);
}
  where
    distinct : IsDistinct nat_eq (k ∷ rest)
    distinct = subst (IsDistinct nat_eq) e f.distinct

flips : (a b : ℕ) → (a == b) ≡ (b == a)
flips a b = elim (cases_eq a b) [
  | inl h ↦ eq-eqb a b h ∙ sym (eq-eqb b a (sym h))
  | inr h ↦ ne_eqb a b h ∙ sym (ne_eqb b a (λ e. h (sym e)))
]

-- the numbers change their places
pub flagged_turned : (queue next : List ℕ) (fs : List Bool) (places : ℕ) → IsPermutation queue next → AreFlagged queue fs places → AreFlagged next fs places
flagged_turned queue next fs places p f = record {
  distinct = IsDistinct-IsPermutation nat_eq flips queue next p f.distinct;
  there = λ n. sym (list_any-IsPermutation (λ m. n == m) queue next p) ∙ f.there n;
  enough = f.enough;
}
