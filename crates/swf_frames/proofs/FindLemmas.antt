-- What a forest has of a number, told by the list of its rows.
use Rattle.std.proofs.Common.{◌≡◌, ◌≢◌, ◌⊎◌, inl, inr, ◌∙◌, refl, ap, subst, ℕ, zero, suc, ◌<◌, ◌≤◌, ◌==◌, if◌then◌else◌, Bool, true, false, cond, List, [], ◌∷◌, Option, Some, None, slice_get, drop, arith}
use Rattle.std.proofs.lemmas.Option.{same_Some}
use Rattle.std.proofs.lemmas.Bool.{ne_eqb, eq-eqb, eqb-false, cond-true, cond-false, or_cases, or_left, or_right, or_from}
use Rattle.std.specs.List.{list_any}
use Rattle.std.specs.Option.{option_or}
use Rattle.swf_frames.specs.Tree.{Strands, strand, no_strands, Branch, find}
use Rattle.swf_frames.specs.Stacks.{Row, links, Rises, HasParents, IsLinked, is_child_of, under, strands_of, has_number}

module _ {F : Type 0} where
  -- no row has the number
  abbrev pub Lacks : List (Row F) → ℕ → Type 0
  Lacks ss n = (j : ℕ) (s : Row F) → slice_get ss j ≡ Some s → s.number ≢ n

  pub at_least : (ss : List (Row F)) (low next : ℕ) → Rises low (links ss) next → (j : ℕ) (s : Row F) → slice_get ss j ≡ Some s → low ≤ s.number
  at_least [] low next r j s e = cc
  at_least (t ∷ ss) low next r zero s e = subst (λ (u : Row F). low ≤ u.number) (same_Some t s e) r.0
  at_least (t ∷ ss) low next r (suc j) s e = let h = at_least ss (suc t.number) next r.1 j s e in omega arith

  -- of two rows the one behind has the higher number
  pub rises : (ss : List (Row F)) (low next : ℕ) → Rises low (links ss) next → (i j : ℕ) (s t : Row F) → i < j → slice_get ss i ≡ Some s → slice_get ss j ≡ Some t → s.number < t.number
  rises [] low next r i j s t l e f = cc
  rises (u ∷ ss) low next r zero zero s t l e f = absurd (omega arith)
  rises (u ∷ ss) low next r zero (suc j) s t l e f = subst (λ (v : Row F). v.number < t.number) (same_Some u s e) (at_least ss (suc u.number) next r.1 j t f)
  rises (u ∷ ss) low next r (suc i) zero s t l e f = absurd (omega arith)
  rises (u ∷ ss) low next r (suc i) (suc j) s t l e f = rises ss (suc u.number) next r.1 i j s t (omega arith) e f

  pub lacks_lower : (ss : List (Row F)) (low next n : ℕ) → Rises low (links ss) next → n < low → Lacks ss n
  lacks_lower ss low next n r l j s e = λ same. let h = at_least ss low next r j s e in absurd (omega arith)

  pub past : (m n : ℕ) (fs : List F) (x y : Strands F) → m ≢ n → find (strand m fs x y) n ≡ option_or (find x n) (find y n)
  past m n fs x y d = cond-false (m == n) _ _ (ne_eqb m n d)

  here : (m : ℕ) (fs : List F) (x y : Strands F) → find (strand m fs x y) m ≡ Some (record { frames = fs; below = x })
  here m fs x y = cond-true (m == m) _ _ (eq-eqb m m refl)

  absent_step : (b : Bool) (m n : ℕ) (fs : List F) (x y : Strands F) → m ≢ n → find x n ≡ None → find y n ≡ None → find (if b then strand m fs x y else y) n ≡ None
  absent_step false m n fs x y d hx hy = hy
  absent_step true m n fs x y d hx hy = past m n fs x y d ∙ (ap (λ o. option_or o (find y n)) hx ∙ hy)

  pub absent : (ss : List (Row F)) (n p : ℕ) → Lacks ss n → find (under p ss) n ≡ None
  absent [] n p h = refl
  absent (s ∷ ss) n p h =
      absent_step (is_child_of p s.parent) s.number n s.frames (under s.number ss) (under p ss) (h zero s refl) (absent ss n s.number (λ j. h (suc j))) (absent ss n p (λ j. h (suc j)))

  pub gone : (ss : List (Row F)) (n : ℕ) → Lacks ss n → find (strands_of ss) n ≡ None
  gone [] n h = refl
  gone (s ∷ ss) n h = absent_step true s.number n s.frames (under s.number ss) no_strands (h zero s refl) (absent ss n s.number (λ j. h (suc j))) refl

  -- what the row at a place holds
  abbrev pub branch_at : List (Row F) → ℕ → Row F → Branch F
  branch_at ss i s = record { frames = s.frames; below = under s.number (drop (suc i) ss) }

  sound_step : (b : Bool) (m n : ℕ) (fs : List F) (x y : Strands F) (h : Branch F) → m ≢ n → (find x n ≡ None) ⊎ (find x n ≡ Some h) → (find y n ≡ None) ⊎ (find y n ≡ Some h) → (find (if b then strand m fs x y else y) n ≡ None) ⊎ (find (if b then strand m fs x y else y) n ≡ Some h)
  sound_step false m n fs x y h d hx hy = hy
  sound_step true m n fs x y h d (inl a) (inl b) = inl (past m n fs x y d ∙ (ap (λ o. option_or o (find y n)) a ∙ b))
  sound_step true m n fs x y h d (inl a) (inr b) = inr (past m n fs x y d ∙ (ap (λ o. option_or o (find y n)) a ∙ b))
  sound_step true m n fs x y h d (inr a) hy = inr (past m n fs x y d ∙ ap (λ o. option_or o (find y n)) a)

  sound_here : (b : Bool) (m : ℕ) (fs : List F) (x y : Strands F) → find y m ≡ None → (find (if b then strand m fs x y else y) m ≡ None) ⊎ (find (if b then strand m fs x y else y) m ≡ Some (record { frames = fs; below = x }))
  sound_here false m fs x y h = inl h
  sound_here true m fs x y h = inr (here m fs x y)

  -- under a parent a number is the row that has it, or nothing
  sound : (ss : List (Row F)) (low next : ℕ) → Rises low (links ss) next → (i p : ℕ) (s : Row F) → slice_get ss i ≡ Some s → (find (under p ss) s.number ≡ None) ⊎ (find (under p ss) s.number ≡ Some (branch_at ss i s))
  sound [] low next r i p s e = cc
  sound (t ∷ ss) low next r zero p s e =
      let P : Row F → Type 0 = λ u. (find (under p (t ∷ ss)) u.number ≡ None) ⊎ (find (under p (t ∷ ss)) u.number ≡ Some (branch_at (t ∷ ss) zero u)) in
      subst P (same_Some t s e) (sound_here (is_child_of p t.parent) t.number t.frames (under t.number ss) (under p ss) (absent ss t.number p (lacks_lower ss (suc t.number) next t.number r.1 (omega arith))))
  sound (t ∷ ss) low next r (suc i) p s e =
      let d : t.number ≢ s.number = λ same. let h = at_least ss (suc t.number) next r.1 i s e in absurd (omega arith) in
      sound_step (is_child_of p t.parent) t.number s.number t.frames (under t.number ss) (under p ss) (branch_at ss i s) d (sound ss (suc t.number) next r.1 i t.number s e) (sound ss (suc t.number) next r.1 i p s e)

  -- under none of these is the number
  abbrev Missing : List (Row F) → ℕ → List ℕ → Type 0
  Missing ss n [] = Unit {0}
  Missing ss n (p ∷ ps) = (find (under p ss) n ≡ None) × Missing ss n ps

  or_none : (o q : Option (Branch F)) → option_or o q ≡ None → (o ≡ None) × (q ≡ None)
  or_none None q h = (refl, h)
  or_none (Some x) q h = cc

  pub cond_none : (b : Bool) (z : Branch F) (o : Option (Branch F)) → cond b (Some z) o ≡ None → (b ≡ false) × (o ≡ None)
  cond_none true z o h = cc
  cond_none false z o h = (refl, h)

  pub none_parts : (b : Bool) (z : Branch F) (o q : Option (Branch F)) → cond b (Some z) (option_or o q) ≡ None → (o ≡ None) × (q ≡ None)
  none_parts b z o q h = or_none o q (cond_none b z (option_or o q) h).1

  missing_after : (b : Bool) (m n : ℕ) (fs : List F) (x y : Strands F) → find (if b then strand m fs x y else y) n ≡ None → find y n ≡ None
  missing_after false m n fs x y h = h
  missing_after true m n fs x y h = (or_none (find x n) (find y n) (cond_none (m == n) _ _ h).1).1

  missing_below : (b : Bool) (m n : ℕ) (fs : List F) (x y : Strands F) → b ≡ true → find (if b then strand m fs x y else y) n ≡ None → ((m == n) ≡ false) × (find x n ≡ None)
  missing_below false m n fs x y e h = cc
  missing_below true m n fs x y e h = let k = cond_none (m == n) _ _ h in (k.0, (or_none (find x n) (find y n) k.1).0)

  missing_tail : (t : Row F) (ss : List (Row F)) (n : ℕ) (ps : List ℕ) → Missing (t ∷ ss) n ps → Missing ss n ps
  missing_tail t ss n [] h = tt
  missing_tail t ss n (p ∷ ps) h = (missing_after (is_child_of p t.parent) t.number n t.frames (under t.number ss) (under p ss) h.0, missing_tail t ss n ps h.1)

  missing_parent : (t : Row F) (ss : List (Row F)) (n : ℕ) (ps : List ℕ) → Missing (t ∷ ss) n ps → list_any (λ p. is_child_of p t.parent) ps ≡ true → ((t.number == n) ≡ false) × (find (under t.number ss) n ≡ None)
  missing_parent t ss n [] h e = cc
  missing_parent t ss n (p ∷ ps) h e =
      elim (or_cases (is_child_of p t.parent) (list_any (λ q. is_child_of q t.parent) ps) e) [
        | inl a ↦ missing_below (is_child_of p t.parent) t.number n t.frames (under t.number ss) (under p ss) a h.0
        | inr b ↦ missing_parent t ss n ps h.1 b
      ]

  -- each number is under one of those that were seen
  reached : (ss : List (Row F)) (low next : ℕ) → Rises low (links ss) next → (seen : List ℕ) → HasParents seen (links ss) → (i : ℕ) (s : Row F) → slice_get ss i ≡ Some s → Missing ss s.number seen → ⊥
  reached [] low next r seen h i s e m = cc
  reached (t ∷ ss) low next r seen h zero s e m = eqb-false t.number s.number (missing_parent t ss s.number seen m h.0).0 (ap (λ (u : Row F). u.number) (same_Some t s e))
  reached (t ∷ ss) low next r seen h (suc i) s e m =
      reached ss (suc t.number) next r.1 (t.number ∷ seen) h.1 i s e ((missing_parent t ss s.number seen m h.0).1, missing_tail t ss s.number seen m)

  -- a number behind the root is below it
  pub present_below : (t : Row F) (ss : List (Row F)) (next : ℕ) → IsLinked (links (t ∷ ss)) next → (i : ℕ) (s : Row F) → slice_get ss i ≡ Some s → find (under t.number ss) s.number ≡ Some (branch_at ss i s)
  present_below t ss next l i s e =
      elim (sound ss (suc t.number) next l.0.1 i t.number s e) [
        | inl a ↦ absurd (reached ss (suc t.number) next l.0.1 (t.number ∷ []) l.1.1 i s e (a, tt))
        | inr b ↦ b
      ]

  pub behind : (t : Row F) (ss : List (Row F)) (next : ℕ) → IsLinked (links (t ∷ ss)) next → (i : ℕ) (s : Row F) → slice_get ss i ≡ Some s → t.number ≢ s.number
  behind t ss next l i s e = λ same. let h = at_least ss (suc t.number) next l.0.1 i s e in absurd (omega arith)

  pub present : (ss : List (Row F)) (next : ℕ) → IsLinked (links ss) next → (i : ℕ) (s : Row F) → slice_get ss i ≡ Some s → find (strands_of ss) s.number ≡ Some (branch_at ss i s)
  present [] next l i s e = cc
  present (t ∷ ss) next l zero s e =
      let P : Row F → Type 0 = λ u. find (strands_of (t ∷ ss)) u.number ≡ Some (branch_at (t ∷ ss) zero u) in
      subst P (same_Some t s e) (here t.number t.frames (under t.number ss) no_strands)
  present (t ∷ ss) next l (suc i) s e =
      past t.number s.number t.frames (under t.number ss) no_strands (behind t ss next l i s e)
      ∙ ap (λ o. option_or o None) (present_below t ss next l i s e)

  pub has_at : (rs : List (Row F)) (i n : ℕ) (r : Row F) → slice_get rs i ≡ Some r → r.number ≡ n → has_number rs n ≡ true
  has_at [] i n r e h = cc
  has_at (x ∷ xs) zero n r e h = or_left (x.number == n) (has_number xs n) (eq-eqb x.number n (ap (λ (q : Row F). q.number) (same_Some x r e) ∙ h))
  has_at (x ∷ xs) (suc i) n r e h = or_right (x.number == n) (has_number xs n) (has_at xs i n r e h)

  pub lacks_has : (rs : List (Row F)) (n : ℕ) → Lacks rs n → has_number rs n ≡ false
  lacks_has [] n h = refl
  lacks_has (x ∷ xs) n h = or_from (x.number == n) (has_number xs n) (ne_eqb x.number n (h zero x refl)) (lacks_has xs n (λ j. h (suc j)))
