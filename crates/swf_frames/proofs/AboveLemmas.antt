-- The strand above one, told by its row.
use Rattle.std.proofs.Common.{◌≡◌, ◌≢◌, ◌⊎◌, inl, inr, ◌∙◌, refl, sym, ap, subst, ℕ, zero, suc, ◌==◌, if◌then◌else◌, Bool, true, false, List, [], ◌∷◌, Option, Some, None, slice_get, arith}
use Rattle.std.proofs.lemmas.Option.{same_Some}
use Rattle.std.proofs.lemmas.Bool.{ne_eqb, eq-eqb, eqb-true, cond-true, cond-false, cases_Bool}
use Rattle.std.specs.Option.{option_or, is_some}
use Rattle.swf_frames.specs.Tree.{Strands, strand, no_strands, Branch, find, above}
use Rattle.swf_frames.specs.Stacks.{Row, links, Rises, IsLinked, is_child_of, under, strands_of}
use Rattle.swf_frames.proofs.FindLemmas.{at_least, lacks_lower, absent, branch_at, cond_none, none_parts, present_below, behind}

pub or_some : {T : Type 0} (o q : Option T) (z : T) → option_or o q ≡ Some z → (o ≡ Some z) ⊎ ((o ≡ None) × (q ≡ Some z))
or_some None q z h = inr (refl, h)
or_some (Some x) q z h = inl h

some_or : {T : Type 0} (o q : Option T) → is_some o ≡ true → is_some (option_or o q) ≡ true
some_or None q h = cc
some_or (Some x) q h = refl

or_either : {T : Type 0} (q o : Option T) → (o ≡ None) ⊎ (o ≡ q) → (option_or q o ≡ None) ⊎ (option_or q o ≡ q)
or_either None o h = h
or_either (Some z) o h = inr refl

or_nothing : {T : Type 0} (o : Option T) → option_or o None ≡ o
or_nothing None = refl
or_nothing (Some x) = refl

pub child_parent : (p : ℕ) (q : Option ℕ) → is_child_of p q ≡ true → Some p ≡ q
child_parent p None h = cc
child_parent p (Some x) h = ap Some (sym (eqb-true x p h))

module _ {F : Type 0} where
  pub above_absent : (up : Option ℕ) (x : Strands F) (n : ℕ) → find x n ≡ None → above up x n ≡ None
  above_absent up no_strands n h = refl
  above_absent up (strand m fs below after) n h =
      let z : Branch F = record { frames = fs; below = below } in
      let other = (cond_none (m == n) z (option_or (find below n) (find after n)) h).0 in
      let parts = none_parts (m == n) z (find below n) (find after n) h in
      cond-false (m == n) up _ other ∙ λ i. option_or (above_absent (Some m) below n parts.0 i) (above_absent up after n parts.1 i)

  above_present : (p : ℕ) (x : Strands F) (n : ℕ) (b : Branch F) → find x n ≡ Some b → is_some (above (Some p) x n) ≡ true
  above_present p no_strands n b h = cc
  above_present p (strand m fs below after) n b h =
      elim (cases_Bool (m == n)) [
        | inl t ↦ ap is_some (cond-true (m == n) (Some p) _ t)
        | inr t ↦ ap is_some (cond-false (m == n) (Some p) _ t)
            ∙ elim (or_some (find below n) (find after n) b (sym (cond-false (m == n) _ _ t) ∙ h)) [
              | inl k ↦ some_or (above (Some m) below n) (above (Some p) after n) (above_present m below n b k)
              | inr k ↦ ap (λ o. is_some (option_or o (above (Some p) after n))) (above_absent (Some m) below n k.0) ∙ above_present p after n b k.1
            ]
      ]

  here_above : (b : Bool) (p m : ℕ) (q : Option ℕ) (fs : List F) (x y : Strands F) → (b ≡ true → Some p ≡ q) → above (Some p) y m ≡ None → (above (Some p) (if b then strand m fs x y else y) m ≡ None) ⊎ (above (Some p) (if b then strand m fs x y else y) m ≡ q)
  here_above false p m q fs x y f h = inl h
  here_above true p m q fs x y f h = inr (cond-true (m == m) (Some p) _ (eq-eqb m m refl) ∙ f refl)

  there_above : (b : Bool) (p m n : ℕ) (q : Option ℕ) (fs : List F) (x y : Strands F) → m ≢ n → (above (Some m) x n ≡ None) ⊎ (above (Some m) x n ≡ q) → (above (Some p) y n ≡ None) ⊎ (above (Some p) y n ≡ q) → (above (Some p) (if b then strand m fs x y else y) n ≡ None) ⊎ (above (Some p) (if b then strand m fs x y else y) n ≡ q)
  there_above false p m n q fs x y d hx hy = hy
  there_above true p m n q fs x y d (inl a) hy =
      let step = cond-false (m == n) (Some p) (option_or (above (Some m) x n) (above (Some p) y n)) (ne_eqb m n d) ∙ ap (λ o. option_or o (above (Some p) y n)) a in
      elim hy [ inl b ↦ inl (step ∙ b) | inr b ↦ inr (step ∙ b) ]
  there_above true p m n q fs x y d (inr a) hy =
      let step = cond-false (m == n) (Some p) (option_or (above (Some m) x n) (above (Some p) y n)) (ne_eqb m n d) ∙ ap (λ o. option_or o (above (Some p) y n)) a in
      elim (or_either q (above (Some p) y n) hy) [ inl b ↦ inl (step ∙ b) | inr b ↦ inr (step ∙ b) ]

  above_sound : (ss : List (Row F)) (low next : ℕ) → Rises low (links ss) next → (i p : ℕ) (s : Row F) → slice_get ss i ≡ Some s → (above (Some p) (under p ss) s.number ≡ None) ⊎ (above (Some p) (under p ss) s.number ≡ s.parent)
  above_sound [] low next r i p s e = cc
  above_sound (t ∷ ss) low next r zero p s e =
      let P : Row F → Type 0 = λ u. (above (Some p) (under p (t ∷ ss)) u.number ≡ None) ⊎ (above (Some p) (under p (t ∷ ss)) u.number ≡ u.parent) in
      let none = above_absent (Some p) (under p ss) t.number (absent ss t.number p (lacks_lower ss (suc t.number) next t.number r.1 (omega arith))) in
      subst P (same_Some t s e) (here_above (is_child_of p t.parent) p t.number t.parent t.frames (under t.number ss) (under p ss) (child_parent p t.parent) none)
  above_sound (t ∷ ss) low next r (suc i) p s e =
      let d : t.number ≢ s.number = λ same. let h = at_least ss (suc t.number) next r.1 i s e in absurd (omega arith) in
      there_above (is_child_of p t.parent) p t.number s.number s.parent t.frames (under t.number ss) (under p ss) d (above_sound ss (suc t.number) next r.1 i t.number s e) (above_sound ss (suc t.number) next r.1 i p s e)

  pub parent_at : (ss : List (Row F)) (next : ℕ) → IsLinked (links ss) next → (i : ℕ) (s : Row F) → slice_get ss i ≡ Some s → above None (strands_of ss) s.number ≡ s.parent
  parent_at [] next l i s e = cc
  parent_at (t ∷ ss) next l zero s e =
      let P : Row F → Type 0 = λ u. above None (strands_of (t ∷ ss)) u.number ≡ u.parent in
      subst P (same_Some t s e) (cond-true (t.number == t.number) None _ (eq-eqb t.number t.number refl) ∙ sym l.1.0)
  parent_at (t ∷ ss) next l (suc i) s e =
      let some = above_present t.number (under t.number ss) s.number (branch_at ss i s) (present_below t ss next l i s e) in
      let same : above (Some t.number) (under t.number ss) s.number ≡ s.parent = elim (above_sound ss (suc t.number) next l.0.1 i t.number s e) [
        | inl a ↦ (let k = sym (ap is_some a) ∙ some in cc)
        | inr a ↦ a
      ] in
      cond-false (t.number == s.number) None _ (ne_eqb t.number s.number (behind t ss next l i s e))
      ∙ (or_nothing (above (Some t.number) (under t.number ss) s.number) ∙ same)
