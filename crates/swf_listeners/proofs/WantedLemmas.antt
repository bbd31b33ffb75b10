-- What callers cite of what is wanted, and of who may take an event.
use Rattle.std.proofs.Common.{◌≡◌, ◌∙◌, refl, ap, sym, ℕ, zero, suc, ◌≤◌, ◌==◌, ◌&&◌, ◌||◌, inl, inr, List, [], ◌∷◌, ◌++◌, length, Bool, true, false, cond, Option, Some, None, nat_lt, arith}
use Rattle.std.proofs.lemmas.Bool.{eq-eqb, ne_eqb, ltb-true, ltb-false, lt-ltb, le-ltb, cases_eq, cases_Bool}
use Rattle.std.proofs.lemmas.List.Folds.{list_any-append}
use Rattle.std.specs.BTreeSet.{insert_key}
use Rattle.std.specs.Cmp.Lexicographic.{slice_cmp, texts_ties}
use Rattle.std.specs.List.{list_any}
use Rattle.std.specs.Ordering.{nat_cmp, match_ordering, is_eq}
use Rattle.std.specs.Prelude.{fold}
use Rattle.std.specs.declared.cmp.Ordering.{Ordering}
use Rattle.std.specs.declared.cmp.Ordering.TheVariants.{Less, Equal, Greater}
use Rattle.swf_text.specs.Same.{same}
use Rattle.swf_text.proofs.SameLemmas.{same_refl, same_true}
use Rattle.swf_listeners.specs.Listeners.{numbers_where, wanted_by, who}
use Rattle.swf_listeners.specs.Wanted.{Wanted, nothing, with_listen, wanted_of, has, wants}

-- one listen more
pub wanted_more : (listens : List (Option (List ℕ))) (x : Option (List ℕ)) → wanted_of (listens ++ x ∷ []) ≡ with_listen (wanted_of listens) x
wanted_more listens x = from nothing listens
  where
    from : (w : Wanted) (listens : List (Option (List ℕ))) → fold with_listen w (listens ++ x ∷ []) ≡ with_listen (fold with_listen w listens) x
    from w [] = refl
    from w (y ∷ listens) = from (with_listen w y) listens

-- a listen is for that type, or for events whose type is not told
abbrev pub hears : List ℕ → Option (List ℕ) → Bool
hears t None = true
hears t (Some u) = same t u

or_swap : (a b c : Bool) → (a || (b || c)) ≡ (b || (a || c))
or_swap true true c = refl
or_swap true false c = refl
or_swap false b c = refl

-- a type that comes is there, and each that was there
has_more : (t u : List ℕ) (ts : List (List ℕ)) → list_any (same t) (insert_key (slice_cmp nat_cmp) ts u) ≡ (same t u || list_any (same t) ts)
has_more t u [] = refl
has_more t u (v ∷ ts) = by (slice_cmp nat_cmp u v) refl (has_more t u ts)
  where
    twice : (a b : Bool) → (a || b) ≡ (a || (a || b))
    twice true b = refl
    twice false b = refl

    by : (o : Ordering) → slice_cmp nat_cmp u v ≡ o → list_any (same t) (insert_key (slice_cmp nat_cmp) ts u) ≡ (same t u || list_any (same t) ts) → list_any (same t) (match_ordering o (u ∷ v ∷ ts) (v ∷ ts) (v ∷ insert_key (slice_cmp nat_cmp) ts u)) ≡ (same t u || (same t v || list_any (same t) ts))
    by Less e h = refl
    by Equal e h = sym (ap (λ b. b || (same t v || list_any (same t) ts)) (ap (same t) (same_true u v (texts_ties u v ∙ ap is_eq e))) ∙ sym (twice (same t v) (list_any (same t) ts)))
    by Greater e h = ap (λ b. same t v || b) h ∙ or_swap (same t v) (same t u) (list_any (same t) ts)

-- who wants a type has a listen that hears it
wants_more : (t : List ℕ) (w : Wanted) (x : Option (List ℕ)) → wants t (with_listen w x) ≡ (hears t x || wants t w)
wants_more t w None = refl
wants_more t w (Some u) = ap (λ b. w.any || b) (has_more t u w.types) ∙ or_swap w.any (same t u) (has t w)

pub wants_of : (t : List ℕ) (listens : List (Option (List ℕ))) → wants t (wanted_of listens) ≡ list_any (hears t) listens
wants_of t listens = from nothing listens ∙ none (list_any (hears t) listens)
  where
    none : (a : Bool) → (a || false) ≡ a
    none true = refl
    none false = refl

    turned : (a b c : Bool) → (a || (b || c)) ≡ ((b || a) || c)
    turned true true c = refl
    turned true false c = refl
    turned false true c = refl
    turned false false c = refl

    from : (w : Wanted) (listens : List (Option (List ℕ))) → wants t (fold with_listen w listens) ≡ (list_any (hears t) listens || wants t w)
    from w [] = refl
    from w (x ∷ listens) = from (with_listen w x) listens ∙ ap (λ b. list_any (hears t) listens || b) (wants_more t w x) ∙ turned (list_any (hears t) listens) (hears t x) (wants t w)

-- who wants nothing has no listen
pub wants_nothing : (listens : List (Option (List ℕ))) → wanted_of listens ≡ nothing → listens ≡ []
wants_nothing [] e = refl
wants_nothing (None ∷ listens) e = let f : true ≡ false = sym (wants_of [] (None ∷ listens)) ∙ ap (wants []) e in cc
wants_nothing (Some t ∷ listens) e = let f : true ≡ false = sym (wants_of t (Some t ∷ listens) ∙ ap (λ b. b || list_any (hears t) listens) (same_refl t)) ∙ ap (wants t) e in cc

-- the numbers that pass are those below the bound at which the test does
pub among_where : (test : ℕ → Bool) (n bound : ℕ) → list_any (λ m. n == m) (numbers_where test bound) ≡ (nat_lt n bound && test n)
among_where test n zero = sym (ap (λ b. b && test n) (le-ltb n 0 (omega arith)))
among_where test n (suc bound) = list_any-append (λ m. n == m) (numbers_where test bound) (cond (test bound) (bound ∷ []) []) ∙ ap (λ b. b || list_any (λ m. n == m) (cond (test bound) (bound ∷ []) [])) (among_where test n bound) ∙ elim (cases_eq n bound) [
  | inl h ↦ ap (λ b. (b && test n) || list_any (λ m. n == m) (cond (test bound) (bound ∷ []) [])) (le-ltb n bound (omega (arith, h)))
      ∙ at_it (test bound) h ∙ sym (ap (λ b. b && test n) (lt-ltb n (suc bound) (omega (arith, h))) ∙ ap test h)
  | inr h ↦ ap (λ b. (nat_lt n bound && test n) || b) (elsewhere (test bound) h) ∙ no_more (nat_lt n bound && test n) ∙ ap (λ b. b && test n) (below h)
]
  where
    no_more : (a : Bool) → (a || false) ≡ a
    no_more true = refl
    no_more false = refl

    at_it : (b : Bool) → n ≡ bound → list_any (λ m. n == m) (cond b (bound ∷ []) []) ≡ b
    at_it true h = ap (λ a. a || false) (eq-eqb n bound h)
    at_it false h = refl

    elsewhere : (b : Bool) → (n ≡ bound → ⊥) → list_any (λ m. n == m) (cond b (bound ∷ []) []) ≡ false
    elsewhere true h = ap (λ a. a || false) (ne_eqb n bound h)
    elsewhere false h = refl

    below : (n ≡ bound → ⊥) → nat_lt n bound ≡ nat_lt n (suc bound)
    below h = elim (cases_Bool (nat_lt n bound)) [
      | inl e ↦ e ∙ sym (lt-ltb n (suc bound) (omega (arith, ltb-true n bound e)))
      | inr e ↦ e ∙ sym (le-ltb n (suc bound) (omega (arith, ltb-false n bound e, h)))
    ]

-- a number may take an event exactly where it wants its type
pub among_who : (t : List ℕ) (all : List Wanted) (n : ℕ) → list_any (λ m. n == m) (who t all) ≡ wants t (wanted_by all n)
among_who t all n = among_where (λ k. wants t (wanted_by all k)) n (length all) ∙ elim (cases_Bool (nat_lt n (length all))) [
  | inl e ↦ ap (λ b. b && wants t (wanted_by all n)) e
  | inr e ↦ ap (λ b. b && wants t (wanted_by all n)) e ∙ sym (ap (wants t) (past all n (ltb-false n (length all) e)))
]
  where
    past : (all : List Wanted) (n : ℕ) → length all ≤ n → wanted_by all n ≡ nothing
    past [] n l = refl
    past (w ∷ all) zero l = absurd (omega (arith, l))
    past (w ∷ all) (suc n) l = past all n (omega (arith, l))
