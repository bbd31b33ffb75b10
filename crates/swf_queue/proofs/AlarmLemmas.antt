-- The nodes of a tournament, what its top says of the alarms, and who is woken.
use Rattle.std.proofs.Common.{◌≡◌, ◌∙◌, refl, ap, sym, subst, ℕ, zero, suc, ◌<◌, ◌≤◌, ◌+◌, ◌-◌, ◌*◌, ◌/◌, ◌||◌, inl, inr, List, [], ◌∷◌, ◌++◌, length, get_or, take, drop, nat_le, Bool, true, false, Option, Some, None, arith, length-append, append_assoc, ◌==◌, ◌⊎◌}
use Rattle.std.proofs.Math.ListN.{set}
use Rattle.std.proofs.lemmas.Bool.{leb-true, leb-false, le-leb, or_cases, or_left, or_right, cases_eq, cases_Bool}
use Rattle.std.proofs.lemmas.List.{get_or-set_other, get_or-set_same, length-set, get_or-append-add, get_or-append_right, set-append_left, set-append_right, take-append-drop}
use Rattle.std.proofs.lemmas.List.Folds.{list_any-append, list_any_at}
use Rattle.std.specs.List.{list_any}
use Rattle.std.specs.Prelude.{min}
use Rattle.swf_queue.specs.Alarms.{IsTournament, above, is_by, is_due, node, sooner}
use Rattle.swf_queue.specs.Queue.{is_among}

tied : (a b : Bool) → (a ≡ true → b ≡ true) → (b ≡ true → a ≡ true) → a ≡ b
tied true b f g = sym (f refl)
tied false true f g = g refl
tied false false f g = refl

-- one of two is no later than a moment exactly where the sooner is
pub is_by_sooner : (t : ℕ) (a b : Option ℕ) → is_by t (sooner a b) ≡ (is_by t a || is_by t b)
is_by_sooner t None b = refl
is_by_sooner t (Some a) None = or_false (nat_le a t)
  where
    or_false : (a : Bool) → a ≡ (a || false)
    or_false true = refl
    or_false false = refl
is_by_sooner t (Some a) (Some b) = tied (nat_le (min a b) t) (nat_le a t || nat_le b t) one least
  where
    one : nat_le (min a b) t ≡ true → (nat_le a t || nat_le b t) ≡ true
    one e = elim (cases_Bool (nat_le a t)) [
      | inl h ↦ or_left (nat_le a t) (nat_le b t) h
      | inr h ↦ or_right (nat_le a t) (nat_le b t) (le-leb b t (omega (arith, leb-true (min a b) t e, leb-false a t h)))
    ]

    least : (nat_le a t || nat_le b t) ≡ true → nat_le (min a b) t ≡ true
    least e = elim (or_cases (nat_le a t) (nat_le b t) e) [
      | inl h ↦ le-leb (min a b) t (omega (arith, leb-true a t h))
      | inr h ↦ le-leb (min a b) t (omega (arith, leb-true b t h))
    ]

-- a place where there is an alarm
pub there : (t : ℕ) (nodes : List (Option ℕ)) (k : ℕ) → is_by t (get_or nodes k None) ≡ true → k < length nodes
there t [] k e = cc
there t (a ∷ nodes) zero e = omega arith
there t (a ∷ nodes) (suc k) e = omega (arith, there t nodes k e)

-- what is no later than a moment is above, too
pub up : (t : ℕ) (inner alarms : List (Option ℕ)) → IsTournament inner alarms → (k : ℕ) → 0 < k / 2 → is_by t (node inner alarms k) ≡ true → is_by t (node inner alarms (k / 2)) ≡ true
up t inner alarms w k p e = ap (is_by t) (w.won (k / 2) p (omega (arith, w.wide, there t (inner ++ alarms) k e, length-append inner alarms)))
    ∙ is_by_sooner t (node inner alarms (2 * (k / 2))) (node inner alarms (2 * (k / 2) + 1)) ∙ elim (cases_eq k (2 * (k / 2))) [
      | inl h ↦ or_left (is_by t (node inner alarms (2 * (k / 2)))) (is_by t (node inner alarms (2 * (k / 2) + 1))) (sym (ap (λ j. is_by t (node inner alarms j)) h) ∙ e)
      | inr h ↦ or_right (is_by t (node inner alarms (2 * (k / 2)))) (is_by t (node inner alarms (2 * (k / 2) + 1))) (sym (ap (λ j. is_by t (node inner alarms j)) (odd h)) ∙ e)
    ]
  where
    odd : (k ≡ 2 * (k / 2) → ⊥) → k ≡ 2 * (k / 2) + 1
    odd h = omega arith

pub above_zero : (levels : ℕ) → above levels 0 ≡ 0
above_zero zero = refl
above_zero (suc levels) = above_zero levels

-- and so is each place so many levels above
pub ups : (t : ℕ) (inner alarms : List (Option ℕ)) → IsTournament inner alarms → (levels k place : ℕ) → above levels k ≡ place → 0 < place → is_by t (node inner alarms k) ≡ true → is_by t (node inner alarms place) ≡ true
ups t inner alarms w zero k place e p h = sym (ap (λ j. is_by t (node inner alarms j)) e) ∙ h
ups t inner alarms w (suc levels) k place e p h = ups t inner alarms w levels (k / 2) place e p (up t inner alarms w k some h)
  where
    none : k / 2 ≡ 0 → place ≡ 0
    none f = sym e ∙ ap (above levels) f ∙ above_zero levels

    some : 0 < k / 2
    some = elim (cases_eq (k / 2) 0) [
      | inl f ↦ absurd (omega (arith, none f, p))
      | inr f ↦ omega (arith, f)
    ]

-- some place is so many levels above
pub from_top : (fuel k : ℕ) → k ≤ fuel → 0 < k → (levels : ℕ) × (above levels k ≡ 1)
from_top zero k f p = absurd (omega (arith, f, p))
from_top (suc fuel) k f p = elim (cases_eq k 1) [
  | inl e ↦ (0, e)
  | inr e ↦ let rest = from_top fuel (k / 2) (omega (arith, f, p)) (omega (arith, e, p)) in (suc rest.0, rest.1)
]

halved : (levels k : ℕ) → above levels (k / 2) ≡ above levels k / 2
halved zero k = refl
halved (suc levels) k = halved levels (k / 2)

-- what is above, but not the place itself, is above or at one of the two at twice the place
pub above_down : (levels k place : ℕ) → above levels k ≡ place → (k ≡ place → ⊥) → (rest : ℕ) × ((above rest k ≡ 2 * place) ⊎ (above rest k ≡ 2 * place + 1))
above_down zero k place e n = absurd (n e)
above_down (suc levels) k place e n = (
  levels,
  elim (cases_eq (above levels k) (2 * place)) [
    | inl h ↦ inl h
    | inr h ↦ inr (omega (arith, h, halved levels k, e))
  ],
)

above_le : (levels k : ℕ) → above levels k ≤ k
above_le zero k = omega arith
above_le (suc levels) k = omega (arith, above_le levels (k / 2))

-- no leaf is above another
pub leaf_itself : (levels width n place : ℕ) → n < width → width ≤ place → above levels (width + n) ≡ place → width + n ≡ place
leaf_itself zero width n place l w e = e
leaf_itself (suc levels) width n place l w e = absurd (omega (arith, above_le levels ((width + n) / 2), e, l, w))

at_leaf : (t : ℕ) (inner alarms : List (Option ℕ)) (k : ℕ) → length inner ≤ k → is_by t (node inner alarms k) ≡ true → (n : ℕ) × (is_due t alarms n ≡ true)
at_leaf t inner alarms k l e = (k - length inner, ap (is_by t) (sym (get_or-append_right inner alarms (length inner) k None refl l)) ∙ e)

-- some alarm is no later than a moment where a node is
pub down : (t : ℕ) (inner alarms : List (Option ℕ)) → IsTournament inner alarms → (fuel k : ℕ) → 2 * length inner ≤ k + fuel → 0 < k → is_by t (node inner alarms k) ≡ true → (n : ℕ) × (is_due t alarms n ≡ true)
down t inner alarms w zero k f p e = at_leaf t inner alarms k (omega (arith, f)) e
down t inner alarms w (suc fuel) k f p e = elim (cases_Bool (nat_le (length inner) k)) [
  | inl h ↦ at_leaf t inner alarms k (leb-true (length inner) k h) e
  | inr h ↦ elim (or_cases (is_by t (node inner alarms (2 * k))) (is_by t (node inner alarms (2 * k + 1))) (sym (is_by_sooner t (node inner alarms (2 * k)) (node inner alarms (2 * k + 1))) ∙ ap (is_by t) (sym (w.won k p (leb-false (length inner) k h))) ∙ e)) [
    | inl g ↦ down t inner alarms w fuel (2 * k) (omega (arith, f, p)) (omega (arith, p)) g
    | inr g ↦ down t inner alarms w fuel (2 * k + 1) (omega (arith, f, p)) (omega (arith, p)) g
  ]
]

any_place : (p : Option ℕ → Bool) (xs : List (Option ℕ)) → list_any p xs ≡ true → (n : ℕ) × (n < length xs) × (p (get_or xs n None) ≡ true)
any_place p [] e = cc
any_place p (x ∷ xs) e = elim (or_cases (p x) (list_any p xs) e) [
  | inl h ↦ (0, omega arith, h)
  | inr h ↦ let rest = any_place p xs h in (suc rest.0, omega (arith, rest.1), rest.2)
]

-- a leaf is at the place of its number behind the inner nodes
pub leaf : (t : ℕ) (inner alarms : List (Option ℕ)) (n : ℕ) → is_due t alarms n ≡ true → is_by t (node inner alarms (length inner + n)) ≡ true
leaf t inner alarms n e = ap (is_by t) (get_or-append-add inner alarms n None) ∙ e

-- the top is no later than a moment exactly where some alarm is
pub top_any : (t : ℕ) (inner alarms : List (Option ℕ)) → IsTournament inner alarms → is_by t (node inner alarms 1) ≡ list_any (is_by t) alarms
top_any t inner alarms w = tied (is_by t (node inner alarms 1)) (list_any (is_by t) alarms) one top
  where
    one : is_by t (node inner alarms 1) ≡ true → list_any (is_by t) alarms ≡ true
    one e = let some = down t inner alarms w (2 * length inner) 1 (omega arith) (omega arith) e in list_any_at (is_by t) alarms some.0 None (there t alarms some.0 some.1) some.1

    top : list_any (is_by t) alarms ≡ true → is_by t (node inner alarms 1) ≡ true
    top e =
        let some = any_place (is_by t) alarms e in
        let root = from_top (length inner + some.0) (length inner + some.0) (omega arith) (omega (arith, some.1, w.wide)) in
        ups t inner alarms w root.0 (length inner + some.0) 1 root.1 (omega arith) (leaf t inner alarms some.0 some.2)

-- the node of a place has the sooner of the two at twice the place
abbrev pub Won : List (Option ℕ) → ℕ → Type 0
Won nodes k = get_or nodes k None ≡ sooner (get_or nodes (2 * k) None) (get_or nodes (2 * k + 1) None)

-- each inner node but that of one place has won
pub record WonBut (inner alarms : List (Option ℕ)) (place : ℕ) : Type 0 where
  pub wide : length alarms ≤ length inner
  pub won : (k : ℕ) → 0 < k → k < length inner → (k ≡ place → ⊥) → Won (inner ++ alarms) k

-- a node that is set is no child of one that had won
won_other : (nodes : List (Option ℕ)) (i : ℕ) (a : Option ℕ) (k : ℕ) → (k ≡ i → ⊥) → (2 * k ≡ i → ⊥) → (2 * k + 1 ≡ i → ⊥) → Won nodes k → Won (set nodes i a) k
won_other nodes i a k e l r w = rw (get_or-set_other nodes i k a None e, get_or-set_other nodes i (2 * k) a None l, get_or-set_other nodes i (2 * k + 1) a None r) w

-- an alarm is set: only the node above it may not have won
pub set_leaf : (inner alarms : List (Option ℕ)) (n : ℕ) (a : Option ℕ) → IsTournament inner alarms → WonBut inner (set alarms n a) ((length inner + n) / 2)
set_leaf inner alarms n a w = record {
  wide = omega (arith, w.wide, length-set alarms n a);
  won = λ k p l e. subst (λ nodes. Won nodes k) (set-append_right inner alarms (length inner) (length inner + n) a refl (omega arith) ∙ ap (λ m. inner ++ set alarms m a) (past (length inner) n))
      (won_other (inner ++ alarms) (length inner + n) a k (omega (arith, l)) (λ h. e (omega (arith, h))) (λ h. e (omega (arith, h))) (w.won k p l));
}
  where
    past : (m n : ℕ) → m + n - m ≡ n
    past m n = omega arith

-- a node that is played has won
pub played : (inner alarms : List (Option ℕ)) (place : ℕ) → 0 < place → place < length inner →
    Won (set (inner ++ alarms) place (sooner (node inner alarms (2 * place)) (node inner alarms (2 * place + 1)))) place
played inner alarms place p l =
    get_or-set_same (inner ++ alarms) place a None (omega (arith, l, length-append inner alarms))
    ∙ sym (ap (λ x. sooner x (get_or (set (inner ++ alarms) place a) (2 * place + 1) None)) (get_or-set_other (inner ++ alarms) place (2 * place) a None (omega (arith, p)))
    ∙ ap (sooner (node inner alarms (2 * place))) (get_or-set_other (inner ++ alarms) place (2 * place + 1) a None (omega (arith, p))))
  where
    a : Option ℕ
    a = sooner (node inner alarms (2 * place)) (node inner alarms (2 * place + 1))

-- the node of that place is played: only the node above it may not have won
pub set_inner : (inner alarms : List (Option ℕ)) (place : ℕ) → 0 < place → place < length inner → WonBut inner alarms place →
    WonBut (set inner place (sooner (node inner alarms (2 * place)) (node inner alarms (2 * place + 1)))) alarms (place / 2)
set_inner inner alarms place p l w = record {
  wide = omega (arith, w.wide, length-set inner place a);
  won = λ k q m e. subst (λ nodes. Won nodes k) (set-append_left inner alarms place a l) (elim (cases_eq k place) [
    | inl h ↦ subst (Won (set (inner ++ alarms) place a)) (sym h) (played inner alarms place p l)
    | inr h ↦ won_other (inner ++ alarms) place a k h (λ f. e (omega (arith, f))) (λ f. e (omega (arith, f))) (w.won k q (omega (arith, m, length-set inner place a)) h)
  ]);
}
  where
    a : Option ℕ
    a = sooner (node inner alarms (2 * place)) (node inner alarms (2 * place + 1))

-- what a slice of all nodes leaves of them
pub written_back : (n : ℕ) (nodes rest : List (Option ℕ)) → n ≡ length nodes → take n (nodes ++ rest) ≡ nodes
written_back n nodes rest e = ap (λ k. take k (nodes ++ rest)) e ∙ front nodes
  where
    front : (nodes : List (Option ℕ)) → take (length nodes) (nodes ++ rest) ≡ nodes
    front [] = refl
    front (a ∷ nodes) = ap (λ q. a ∷ q) (front nodes)

-- the top was played last
pub all_won : (inner alarms : List (Option ℕ)) → WonBut inner alarms 0 → IsTournament inner alarms
all_won inner alarms w = record { wide = w.wide; won = λ k p l. w.won k p l (omega (arith, p)) }

-- each inner node from that place on has won
pub record WonFrom (inner alarms : List (Option ℕ)) (place : ℕ) : Type 0 where
  pub wide : length alarms ≤ length inner
  pub won : (k : ℕ) → 0 < k → place ≤ k → k < length inner → Won (inner ++ alarms) k

-- the node before them is played
pub won_more : (inner alarms : List (Option ℕ)) (place : ℕ) → 0 < place → place < length inner → WonFrom inner alarms (place + 1) →
    WonFrom (set inner place (sooner (node inner alarms (2 * place)) (node inner alarms (2 * place + 1)))) alarms place
won_more inner alarms place p l w = record {
  wide = omega (arith, w.wide, length-set inner place a);
  won = λ k q m e. subst (λ nodes. Won nodes k) (set-append_left inner alarms place a l) (elim (cases_eq k place) [
    | inl h ↦ subst (Won (set (inner ++ alarms) place a)) (sym h) (played inner alarms place p l)
    | inr h ↦ won_other (inner ++ alarms) place a k h (omega (arith, m, p)) (omega (arith, m, p)) (w.won k q (omega (arith, m, h)) (omega (arith, e, length-set inner place a)))
  ]);
}
  where
    a : Option ℕ
    a = sooner (node inner alarms (2 * place)) (node inner alarms (2 * place + 1))

-- a new instance has no alarm
pub tournament_added : (inner alarms : List (Option ℕ)) → length alarms < length inner → IsTournament inner alarms → IsTournament inner (alarms ++ None ∷ [])
tournament_added inner alarms l w = record {
  wide = omega (arith, l, length-append alarms (None ∷ []));
  won = λ k p m. same k ∙ w.won k p m ∙ sym (ap (λ x. sooner x (node inner (alarms ++ None ∷ []) (2 * k + 1))) (same (2 * k)) ∙ ap (sooner (node inner alarms (2 * k))) (same (2 * k + 1)));
}
  where
    past : (nodes : List (Option ℕ)) (k : ℕ) → get_or (nodes ++ None ∷ []) k None ≡ get_or nodes k None
    past [] zero = refl
    past [] (suc k) = refl
    past (a ∷ nodes) zero = refl
    past (a ∷ nodes) (suc k) = past nodes k

    same : (k : ℕ) → node inner (alarms ++ None ∷ []) k ≡ node inner alarms k
    same k = ap (λ nodes. get_or nodes k None) (sym (append_assoc inner alarms (None ∷ []))) ∙ past (inner ++ alarms) k

-- who stands in front stays there, and so is among them
pub front_among : (queue next : List ℕ) → take (length queue) next ≡ queue → (n : ℕ) → is_among n queue ≡ true → is_among n next ≡ true
front_among queue next e n h = sym (ap (is_among n) (sym (ap (λ q. q ++ drop (length queue) next) e) ∙ take-append-drop (length queue) next))
    ∙ list_any-append (λ m. n == m) queue (drop (length queue) next) ∙ or_left (is_among n queue) (is_among n (drop (length queue) next)) h

-- those are woken whose alarm is no later than the moment, beside those that were there
pub woken_exactly : (t : ℕ) (inner alarms : List (Option ℕ)) (queue next : List ℕ) → IsTournament inner alarms → ((n : ℕ) → is_among n next ≡ true → (is_among n queue || is_due t alarms n) ≡ true) →
    ((n levels : ℕ) → above levels (length inner + n) ≡ 1 → is_due t alarms n ≡ true → is_among n next ≡ true) → take (length queue) next ≡ queue → (n : ℕ) → is_among n next ≡ (is_among n queue || is_due t alarms n)
woken_exactly t inner alarms queue next w only woken front n = tied (is_among n next) (is_among n queue || is_due t alarms n) (only n) (λ e. elim (or_cases (is_among n queue) (is_due t alarms n) e) [
  | inl h ↦ front_among queue next front n h
  | inr h ↦
      let root = from_top (length inner + n) (length inner + n) (omega arith) (omega (arith, there t alarms n h, w.wide)) in
      woken n root.0 root.1 h
])
