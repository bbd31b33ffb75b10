-- What is kept makes the tree without what is below a strand.
use Rattle.std.proofs.Common.{◌≡◌, ◌≢◌, ◌⊎◌, inl, inr, ◌∙◌, refl, sym, ap, subst, ℕ, suc, ◌<◌, ◌==◌, true, false, not, ◌||◌, List, [], ◌∷◌, ◌++◌, Option, Some, None, option_map, slice_get, arith}
use Rattle.std.proofs.lemmas.Bool.{ne_eqb, eq-eqb, eqb-true, cond-true, cond-false, cases_Bool, or_left, or_right, or_from, or_cases, or_parts, not-false, not_from_true, both_ways}
use Rattle.std.specs.List.{list_any}
use Rattle.std.specs.Option.{is_some}
use Rattle.swf_frames.specs.Tree.{no_strands, Branch, find, with_below}
use Rattle.swf_frames.specs.Stacks.{Row, links, Rises, HasParents, IsRooted, IsLinked, is_child_of, under, strands_of, has_number, is_below, kept}
use Rattle.swf_frames.proofs.FindLemmas.{gone, present, has_at}
use Rattle.swf_frames.proofs.AboveLemmas.{child_parent}
use Rattle.swf_frames.proofs.SplitLemmas.{below_step}
use Rattle.swf_frames.proofs.SiftLemmas.{lower}

any_none : (seen : List ℕ) → list_any (λ m. is_child_of m None) seen ≡ true → ⊥
any_none [] h = cc
any_none (m ∷ seen) h = any_none seen h

module _ {F : Type 0} where
  has_more : (xs : List (Row F)) (r : Row F) (p : ℕ) → r.number ≢ p → has_number (xs ++ r ∷ []) p ≡ has_number xs p
  has_more [] r p d = or_from (r.number == p) false (ne_eqb r.number p d) refl
  has_more (x ∷ xs) r p d = ap (λ b. x.number == p || b) (has_more xs r p d)

  has_last : (xs : List (Row F)) (r : Row F) (p : ℕ) → r.number ≡ p → has_number (xs ++ r ∷ []) p ≡ true
  has_last [] r p e = or_left (r.number == p) false (eq-eqb r.number p e)
  has_last (x ∷ xs) r p e = or_right (x.number == p) (has_number (xs ++ r ∷ []) p) (has_last xs r p e)

  has_either : (xs : List (Row F)) (r : Row F) (p : ℕ) → has_number (xs ++ r ∷ []) p ≡ true → (has_number xs p ≡ true) ⊎ (r.number ≡ p)
  has_either [] r p h = elim (or_cases (r.number == p) false h) [ inl a ↦ inr (eqb-true r.number p a) | inr b ↦ inl b ]
  has_either (x ∷ xs) r p h =
      elim (or_cases (x.number == p) (has_number (xs ++ r ∷ []) p) h) [
        | inl a ↦ inl (or_left (x.number == p) (has_number xs p) a)
        | inr b ↦ elim (has_either xs r p b) [ inl c ↦ inl (or_right (x.number == p) (has_number xs p) c) | inr c ↦ inr c ]
      ]

  same_below : (n p : ℕ) (done : List (Row F)) (r : Row F) → r.number ≢ p → is_below n (done ++ r ∷ []) (Some p) ≡ is_below n done (Some p)
  same_below n p done r d = ap (λ b. p == n || not b) (has_more done r p d)

  pub skip : (n : ℕ) (done : List (Row F)) (r : Row F) (rs : List (Row F)) → is_below n done r.parent ≡ true → kept n done (r ∷ rs) ≡ kept n done rs
  skip n done r rs h = cond-true (is_below n done r.parent) _ _ h

  pub take_in : (n : ℕ) (done : List (Row F)) (r : Row F) (rs : List (Row F)) → is_below n done r.parent ≡ false → kept n done (r ∷ rs) ≡ r ∷ kept n (done ++ r ∷ []) rs
  take_in n done r rs h = cond-false (is_below n done r.parent) _ _ h

  not_child : (n p : ℕ) (done : List (Row F)) (r : Row F) → (is_below n done r.parent ≡ is_below n done (Some p) → ⊥) → is_child_of p r.parent ≡ false
  not_child n p done r f = elim (cases_Bool (is_child_of p r.parent)) [
    | inl t ↦ absurd (f (ap (is_below n done) (sym (child_parent p r.parent t))))
    | inr t ↦ t
  ]

  -- of what stands below a strand that is dropped nothing is kept
  pub dropped : (n : ℕ) (rs done : List (Row F)) (p low next : ℕ) → Rises low (links rs) next → p < low → is_below n done (Some p) ≡ true → under p (kept n done rs) ≡ no_strands
  dropped n [] done p low next r l b = refl
  dropped n (x ∷ xs) done p low next r l b =
      elim (cases_Bool (is_below n done x.parent)) [
        | inl t ↦ ap (under p) (skip n done x xs t) ∙ dropped n xs done p (suc x.number) next r.1 (omega arith) b
        | inr t ↦ (let d : x.number ≢ p = λ e. absurd (omega arith) in
            ap (under p) (take_in n done x xs t)
            ∙ (cond-false (is_child_of p x.parent) _ _ (not_child n p done x (λ e. both_ways (is_below n done x.parent) t (e ∙ b)))
            ∙ dropped n xs (done ++ x ∷ []) p (suc x.number) next r.1 (omega arith) (same_below n p done x d ∙ b)))
      ]

  pub below_itself : (n : ℕ) (done : List (Row F)) (m : ℕ) → m ≡ n → is_below n done (Some m) ≡ true
  below_itself n done m e = or_left (m == n) (not (has_number done m)) (eq-eqb m n e)

  pub kept_itself : (n : ℕ) (done : List (Row F)) (x : Row F) → x.number ≢ n → is_below n (done ++ x ∷ []) (Some x.number) ≡ false
  kept_itself n done x d = or_from (x.number == n) (not (has_number (done ++ x ∷ []) x.number)) (ne_eqb x.number n d) (not_from_true (has_number (done ++ x ∷ []) x.number) (has_last done x x.number refl))

  pub closes : (n : ℕ) (rs done : List (Row F)) (p low next : ℕ) → Rises low (links rs) next → p < low → is_below n done (Some p) ≡ false → under p (kept n done rs) ≡ with_below no_strands (under p rs) n
  closes n [] done p low next r l b = refl
  closes n (x ∷ xs) done p low next r l b =
      elim (cases_Bool (is_below n done x.parent)) [
        | inl t ↦ ap (under p) (skip n done x xs t)
            ∙ (closes n xs done p (suc x.number) next r.1 (omega arith) b
            ∙ ap (λ y. with_below no_strands y n) (sym (cond-false (is_child_of p x.parent) _ _ (not_child n p done x (λ e. both_ways (is_below n done (Some p)) b (sym e ∙ t))))))
        | inr t ↦ (let d : x.number ≢ p = λ e. absurd (omega arith) in
            let after = kept n (done ++ x ∷ []) xs in
            ap (under p) (take_in n done x xs t)
            ∙ below_step (is_child_of p x.parent) x.number n x.frames no_strands (under x.number xs) (under p xs) (under x.number after) (under p after)
            (λ e. dropped n xs (done ++ x ∷ []) x.number (suc x.number) next r.1 (omega arith) (below_itself n (done ++ x ∷ []) x.number e))
            (λ c. closes n xs (done ++ x ∷ []) x.number (suc x.number) next r.1 (omega arith) (kept_itself n done x c))
            (closes n xs (done ++ x ∷ []) p (suc x.number) next r.1 (omega arith) (same_below n p done x d ∙ b)))
      ]

  root_kept : (n : ℕ) (x : Row F) (xs : List (Row F)) → x.parent ≡ None → kept n [] (x ∷ xs) ≡ x ∷ kept n (x ∷ []) xs
  root_kept n x xs e = take_in n [] x xs (ap (is_below {F = F} n []) e)

  pub all_closes : (rs : List (Row F)) (next : ℕ) → IsLinked (links rs) next → (n : ℕ) → strands_of (kept n [] rs) ≡ with_below no_strands (strands_of rs) n
  all_closes [] next l n = refl
  all_closes (x ∷ xs) next l n =
      let after = kept n (x ∷ []) xs in
      ap strands_of (root_kept n x xs l.1.0)
      ∙ below_step true x.number n x.frames no_strands (under x.number xs) no_strands (under x.number after) no_strands
      (λ e. dropped n xs (x ∷ []) x.number (suc x.number) next l.0.1 (omega arith) (below_itself n (x ∷ []) x.number e))
      (λ c. closes n xs (x ∷ []) x.number (suc x.number) next l.0.1 (omega arith) (kept_itself n [] x c))
      refl

  rises_kept : (n : ℕ) (rs done : List (Row F)) (low next : ℕ) → Rises low (links rs) next → Rises low (links (kept n done rs)) next
  rises_kept n [] done low next r = r
  rises_kept n (x ∷ xs) done low next r =
      elim (cases_Bool (is_below n done x.parent)) [
        | inl t ↦ subst (λ ys. Rises low (links ys) next) (sym (skip n done x xs t)) (lower (kept n done xs) (suc x.number) low next (omega arith) (rises_kept n xs done (suc x.number) next r.1))
        | inr t ↦ subst (λ ys. Rises low (links ys) next) (sym (take_in n done x xs t)) (r.0, rises_kept n xs (done ++ x ∷ []) (suc x.number) next r.1)
      ]

  known_parent : (n : ℕ) (done : List (Row F)) (all seen : List ℕ) (q : Option ℕ) → is_below n done q ≡ false → list_any (λ m. is_child_of m q) all ≡ true → ((p : ℕ) → has_number done p ≡ true → list_any (λ m. is_child_of m (Some p)) seen ≡ true) → list_any (λ m. is_child_of m q) seen ≡ true
  known_parent n done all seen None b a f = absurd (any_none all a)
  known_parent n done all seen (Some p) b a f = f p (not-false (has_number done p) (or_parts (p == n) (not (has_number done p)) b).1)

  parents_kept : (n : ℕ) (rs done : List (Row F)) (all seen : List ℕ) → HasParents all (links rs) → ((p : ℕ) → has_number done p ≡ true → list_any (λ m. is_child_of m (Some p)) seen ≡ true) → HasParents seen (links (kept n done rs))
  parents_kept n [] done all seen h f = tt
  parents_kept n (x ∷ xs) done all seen h f =
      elim (cases_Bool (is_below n done x.parent)) [
        | inl t ↦ subst (λ ys. HasParents seen (links ys)) (sym (skip n done x xs t)) (parents_kept n xs done (x.number ∷ all) seen h.1 f)
        | inr t ↦ subst (λ ys. HasParents seen (links ys)) (sym (take_in n done x xs t)) (
          known_parent n done all seen x.parent t h.0 f,
          parents_kept n xs (done ++ x ∷ []) (x.number ∷ all) (x.number ∷ seen) h.1 (λ p k. elim (has_either done x p k) [
            | inl c ↦ or_right (p == x.number) (list_any (λ m. is_child_of m (Some p)) seen) (f p c)
            | inr c ↦ or_left (p == x.number) (list_any (λ m. is_child_of m (Some p)) seen) (eq-eqb p x.number (sym c))
          ]),
        )
      ]

  pub linked_kept : (rs : List (Row F)) (next : ℕ) → IsLinked (links rs) next → (n : ℕ) → IsLinked (links (kept n [] rs)) next
  linked_kept [] next l n = l
  linked_kept (x ∷ xs) next l n =
      let known : (p : ℕ) → has_number (x ∷ []) p ≡ true → list_any (λ m. is_child_of m (Some p)) (x.number ∷ []) ≡ true = λ p k. elim (or_cases (x.number == p) false k) [
        | inl c ↦ or_left (p == x.number) false (eq-eqb p x.number (sym (eqb-true x.number p c)))
        | inr c ↦ cc
      ] in (
        rises_kept n (x ∷ xs) [] 0 next l.0,
        subst (λ ys. IsRooted (links ys)) (sym (root_kept n x xs l.1.0)) (l.1.0, parents_kept n xs (x ∷ []) (x.number ∷ []) (x.number ∷ []) l.1.1 known),
      )

  has_place : (rs : List (Row F)) (n : ℕ) → has_number rs n ≡ true → (i : ℕ) × (r : Row F) × (slice_get rs i ≡ Some r) × (r.number ≡ n)
  has_place [] n h = cc
  has_place (x ∷ xs) n h =
      elim (or_cases (x.number == n) (has_number xs n) h) [
        | inl a ↦ (0, x, refl, eqb-true x.number n a)
        | inr b ↦ (let k = has_place xs n b in (suc k.0, k.1, k.2, k.3))
      ]

  some_frames : (o : Option (Branch F)) → is_some o ≡ true → is_some (option_map (λ b. b.frames) o) ≡ true
  some_frames None h = cc
  some_frames (Some b) h = refl

  pub frames_found : (rs : List (Row F)) (next : ℕ) → IsLinked (links rs) next → (n : ℕ) → has_number rs n ≡ true → is_some (option_map (λ b. b.frames) (find (strands_of rs) n)) ≡ true
  frames_found rs next l n h =
      let k = has_place rs n h in
      some_frames (find (strands_of rs) n) (ap (λ m. is_some (find (strands_of rs) m)) (sym k.3) ∙ ap is_some (present rs next l k.0 k.1 k.2))

  pub has_not : (rs : List (Row F)) (n : ℕ) → has_number rs n ≡ false → find (strands_of rs) n ≡ None
  has_not rs n h = gone rs n (λ j s e same. both_ways (has_number rs n) h (has_at rs j n s e same))
