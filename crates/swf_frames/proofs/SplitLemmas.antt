-- New children of a strand are new rows behind all others.
use Rattle.std.proofs.Common.{◌≡◌, ◌≢◌, inl, inr, ◌∙◌, refl, sym, ap, subst, ℕ, zero, suc, ◌+◌, ◌<◌, ◌≤◌, ◌==◌, if◌then◌else◌, Bool, true, false, List, [], ◌∷◌, ◌++◌, Some, None, length, drop, slice_get, arith}
use Rattle.std.proofs.lemmas.Option.{same_Some}
use Rattle.std.proofs.lemmas.Bool.{ne_eqb, eq-eqb, cond-true, cond-false, cases_eq, or_left, or_right}
use Rattle.std.specs.List.{list_any}
use Rattle.swf_frames.specs.Tree.{Strands, strand, no_strands, Branch, find, with_below, fresh}
use Rattle.swf_frames.specs.Stacks.{Row, links, Rises, HasParents, IsLinked, is_child_of, under, strands_of, fresh_rows}
use Rattle.swf_frames.proofs.FindLemmas.{at_least, gone, cond_none, none_parts}

module _ {F : Type 0} where
  pub fresh_elsewhere : (n p k : ℕ) (fs : List F) → n ≢ p → under p (fresh_rows n k fs) ≡ no_strands
  fresh_elsewhere n p k [] d = refl
  fresh_elsewhere n p k (f ∷ fs) d = cond-false (n == p) _ _ (ne_eqb n p d) ∙ fresh_elsewhere n p (suc k) fs d

  fresh_here : (n k : ℕ) (fs : List F) → n < k → under n (fresh_rows n k fs) ≡ fresh k fs
  fresh_here n k [] l = refl
  fresh_here n k (f ∷ fs) l =
      let d : n ≢ k = λ e. absurd (omega arith) in
      cond-true (n == n) _ _ (eq-eqb n n refl) ∙ λ i. strand k (f ∷ []) (fresh_elsewhere n k (suc k) fs d i) (fresh_here n (suc k) fs (omega arith) i)

  no_child : (b : Bool) (m : ℕ) (fs : List F) (x y : Strands F) → (if b then strand m fs x y else y) ≡ no_strands → (b ≡ false) × (y ≡ no_strands)
  no_child true m fs x y h = cc
  no_child false m fs x y h = (refl, h)

  pub childless_gets : (n k : ℕ) (fs : List F) (rs : List (Row F)) → n < k → under n rs ≡ no_strands → under n (rs ++ fresh_rows n k fs) ≡ fresh k fs
  childless_gets n k fs [] l h = fresh_here n k fs l
  childless_gets n k fs (r ∷ rs) l h =
      let parts = no_child (is_child_of n r.parent) r.number r.frames (under r.number rs) (under n rs) h in
      cond-false (is_child_of n r.parent) _ _ parts.0 ∙ childless_gets n k fs rs l parts.1

  -- a row of this number has none below it
  abbrev pub Childless : ℕ → List (Row F) → Type 0
  Childless n [] = Unit {0}
  Childless n (r ∷ rs) = (r.number ≡ n → under n rs ≡ no_strands) × Childless n rs

  childless_behind : (rs : List (Row F)) (low next n : ℕ) → Rises low (links rs) next → n < low → Childless n rs
  childless_behind [] low next n r l = tt
  childless_behind (x ∷ xs) low next n r l = (λ e. absurd (omega arith), childless_behind xs (suc x.number) next n r.1 (omega arith))

  pub childless_at : (rs : List (Row F)) (low next : ℕ) → Rises low (links rs) next → (i : ℕ) (s : Row F) → slice_get rs i ≡ Some s → under s.number (drop (suc i) rs) ≡ no_strands → Childless s.number rs
  childless_at [] low next r i s e h = cc
  childless_at (t ∷ ss) low next r zero s e h =
      let P : Row F → Type 0 = λ u. under u.number ss ≡ no_strands → Childless u.number (t ∷ ss) in
      subst P (same_Some t s e) (λ k. (λ _. k, childless_behind ss (suc t.number) next t.number r.1 (omega arith))) h
  childless_at (t ∷ ss) low next r (suc i) s e h =
      let l = at_least ss (suc t.number) next r.1 i s e in
      (λ same. absurd (omega arith), childless_at ss (suc t.number) next r.1 i s e h)

  pub below_step : (b : Bool) (m n : ℕ) (gs : List F) (new x y u w : Strands F) → (m ≡ n → u ≡ new) → (m ≢ n → u ≡ with_below new x n) → w ≡ with_below new y n → (if b then strand m gs u w else w) ≡ with_below new (if b then strand m gs x y else y) n
  below_step false m n gs new x y u w hu hx hw = hw
  below_step true m n gs new x y u w hu hx hw =
      elim (cases_eq m n) [
        | inl e ↦ λ i. strand m gs ((hu e ∙ sym (cond-true (m == n) new (with_below new x n) (eq-eqb m n e))) i) (hw i)
        | inr d ↦ λ i. strand m gs ((hx d ∙ sym (cond-false (m == n) new (with_below new x n) (ne_eqb m n d))) i) (hw i)
      ]

  pub splits : (n k : ℕ) (fs : List F) (rs : List (Row F)) (p : ℕ) → p ≢ n → n < k → Childless n rs → under p (rs ++ fresh_rows n k fs) ≡ with_below (fresh k fs) (under p rs) n
  splits n k fs [] p d l h = fresh_elsewhere n p k fs (λ e. d (sym e))
  splits n k fs (r ∷ rs) p d l h =
      below_step (is_child_of p r.parent) r.number n r.frames (fresh k fs) (under r.number rs) (under p rs) (under r.number (rs ++ fresh_rows n k fs)) (under p (rs ++ fresh_rows n k fs))
      (λ e. ap (λ q. under q (rs ++ fresh_rows n k fs)) e ∙ childless_gets n k fs rs l (h.0 e))
      (λ c. splits n k fs rs r.number c l h.1)
      (splits n k fs rs p d l h.1)

  pub all_split : (rs : List (Row F)) (next : ℕ) → IsLinked (links rs) next → (n k : ℕ) (fs : List F) → n < k → Childless n rs → strands_of (rs ++ fresh_rows n k fs) ≡ with_below (fresh k fs) (strands_of rs) n
  all_split [] next linked n k fs l h = absurd linked.1
  all_split (r ∷ rs) next linked n k fs l h =
      below_step true r.number n r.frames (fresh k fs) (under r.number rs) no_strands (under r.number (rs ++ fresh_rows n k fs)) no_strands
      (λ e. ap (λ q. under q (rs ++ fresh_rows n k fs)) e ∙ childless_gets n k fs rs l (h.0 e))
      (λ c. splits n k fs rs r.number c l h.1)
      refl

  fresh_rise : (n k : ℕ) (fs : List F) (low : ℕ) → low ≤ k → Rises low (links (fresh_rows n k fs)) (k + length fs)
  fresh_rise n k [] low l = omega arith
  fresh_rise n k (f ∷ fs) low l =
      let e : suc k + length fs ≡ k + suc (length fs) = omega arith in
      (l, subst (λ m. Rises (suc k) (links (fresh_rows n (suc k) fs)) m) e (fresh_rise n (suc k) fs (suc k) (omega arith)))

  rises_more : (rs : List (Row F)) (low next n : ℕ) (fs : List F) → Rises low (links rs) next → Rises low (links (rs ++ fresh_rows n next fs)) (next + length fs)
  rises_more [] low next n fs r = fresh_rise n next fs low r
  rises_more (x ∷ xs) low next n fs r = (r.0, rises_more xs (suc x.number) next n fs r.1)

  fresh_parents : (seen : List ℕ) (n k : ℕ) (fs : List F) → list_any (λ p. is_child_of p (Some n)) seen ≡ true → HasParents seen (links (fresh_rows n k fs))
  fresh_parents seen n k [] h = tt
  fresh_parents seen n k (f ∷ fs) h = (h, fresh_parents (k ∷ seen) n (suc k) fs (or_right (n == k) (list_any (λ p. is_child_of p (Some n)) seen) h))

  parents_more : (rs : List (Row F)) (seen : List ℕ) (n k : ℕ) (fs : List F) → HasParents seen (links rs) → list_any (λ p. is_child_of p (Some n)) seen ≡ true → HasParents seen (links (rs ++ fresh_rows n k fs))
  parents_more [] seen n k fs h a = fresh_parents seen n k fs a
  parents_more (r ∷ rs) seen n k fs h a = (h.0, parents_more rs (r.number ∷ seen) n k fs h.1 (or_right (n == r.number) (list_any (λ p. is_child_of p (Some n)) seen) a))

  first_seen : (t s : Row F) (seen : List ℕ) → t ≡ s → list_any (λ p. is_child_of p (Some s.number)) (t.number ∷ seen) ≡ true
  first_seen t s seen e = or_left (s.number == t.number) (list_any (λ p. is_child_of p (Some s.number)) seen) (eq-eqb s.number t.number (sym (ap (λ (r : Row F). r.number) e)))

  parents_at : (rs : List (Row F)) (seen : List ℕ) → HasParents seen (links rs) → (i : ℕ) (s : Row F) → slice_get rs i ≡ Some s → (k : ℕ) (fs : List F) → HasParents seen (links (rs ++ fresh_rows s.number k fs))
  parents_at [] seen h i s e k fs = cc
  parents_at (t ∷ ss) seen h zero s e k fs = (h.0, parents_more ss (t.number ∷ seen) s.number k fs h.1 (first_seen t s seen (same_Some t s e)))
  parents_at (t ∷ ss) seen h (suc i) s e k fs = (h.0, parents_at ss (t.number ∷ seen) h.1 i s e k fs)

  pub linked_more : (rs : List (Row F)) (next : ℕ) → IsLinked (links rs) next → (i : ℕ) (s : Row F) → slice_get rs i ≡ Some s → (fs : List F) → IsLinked (links (rs ++ fresh_rows s.number next fs)) (next + length fs)
  linked_more [] next l i s e fs = cc
  linked_more (t ∷ ss) next l zero s e fs =
      (rises_more (t ∷ ss) 0 next s.number fs l.0, (l.1.0, parents_more ss (t.number ∷ []) s.number next fs l.1.1 (first_seen t s [] (same_Some t s e))))
  linked_more (t ∷ ss) next l (suc i) s e fs =
      (rises_more (t ∷ ss) 0 next s.number fs l.0, (l.1.0, parents_at ss (t.number ∷ []) l.1.1 i s e next fs))

  rises_to : (rs : List (Row F)) (low next : ℕ) → Rises low (links rs) next → low ≤ next
  rises_to [] low next r = r
  rises_to (x ∷ xs) low next r = let h = rises_to xs (suc x.number) next r.1 in omega arith

  pub below_next : (rs : List (Row F)) (low next : ℕ) → Rises low (links rs) next → (i : ℕ) (s : Row F) → slice_get rs i ≡ Some s → s.number < next
  below_next [] low next r i s e = cc
  below_next (t ∷ ss) low next r zero s e = subst (λ (u : Row F). u.number < next) (same_Some t s e) (let h = rises_to ss (suc t.number) next r.1 in omega arith)
  below_next (t ∷ ss) low next r (suc i) s e = below_next ss (suc t.number) next r.1 i s e

  pub unused : (rs : List (Row F)) (next : ℕ) → IsLinked (links rs) next → (n : ℕ) → next ≤ n → find (strands_of rs) n ≡ None
  unused rs next l n h = gone rs n (λ j s e same. let k = below_next rs 0 next l.0 j s e in absurd (omega arith))

  -- what has no such number stays
  pub stays_below : (new x : Strands F) (n : ℕ) → find x n ≡ None → with_below new x n ≡ x
  stays_below new no_strands n h = refl
  stays_below new (strand m fs below after) n h =
      let z : Branch F = record { frames = fs; below = below } in
      let other = (cond_none (m == n) z _ h).0 in
      let parts = none_parts (m == n) z (find below n) (find after n) h in
      λ i. strand m fs ((cond-false (m == n) new (with_below new below n) other ∙ stays_below new below n parts.0) i) (stays_below new after n parts.1 i)
