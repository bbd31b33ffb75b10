-- Laws of the ways to strands.
use Rattle.std.proofs.Common.{◌≡◌, ◌≢◌, inl, inr, ◌∙◌, refl, sym, ap, subst, ℕ, zero, suc, ◌==◌, false, List, [], ◌∷◌, Option, Some, None, slice_get, option_map, option_and_then}
use Rattle.std.proofs.lemmas.Option.{same_Some, option_and_then_some}
use Rattle.std.proofs.lemmas.Bool.{ne_eqb, eq-eqb, eqb-true, eqb-false, cond-true, cond-false, cases_Bool, both_ways}
use Rattle.std.specs.Option.{option_or, is_some}
use Rattle.swf_frames.specs.Tree.{Tree, Strands, strand, no_strands, Branch, numbers, find, changed, with_below, child}
use Rattle.swf_frames.specs.Paths.{Found, nth, walk, edit_nth, along, edit, has, AreDistinct}
use Rattle.swf_frames.proofs.FindLemmas.{past, cond_none, none_parts}
use Rattle.swf_frames.proofs.AboveLemmas.{or_some}
use Rattle.swf_frames.proofs.ViewLemmas.{stays}

pub is_none : {T : Type 0} (o : Option T) → is_some o ≡ false → o ≡ None
is_none None h = refl
is_none (Some x) h = cc

module _ {F : Type 0} where
  edit_here : (g : Branch F → Branch F) (m n : ℕ) (fs : List F) (x y : Strands F) → m ≡ n → edit g (strand m fs x y) n ≡ (let r = g (record { frames = fs; below = x }) in strand m r.frames r.below (edit g y n))
  edit_here g m n fs x y e = ap (λ (r : Branch F). strand m r.frames r.below (edit g y n)) (cond-true (m == n) _ _ (eq-eqb m n e))

  edit_past : (g : Branch F → Branch F) (m n : ℕ) (fs : List F) (x y : Strands F) → m ≢ n → edit g (strand m fs x y) n ≡ strand m fs (edit g x n) (edit g y n)
  edit_past g m n fs x y d = ap (λ (r : Branch F). strand m r.frames r.below (edit g y n)) (cond-false (m == n) _ _ (ne_eqb m n d))

  -- what has no such number stays
  pub edit-absent : (g : Branch F → Branch F) (ss : Strands F) (n : ℕ) → find ss n ≡ None → edit g ss n ≡ ss
  edit-absent g no_strands n h = refl
  edit-absent g (strand m fs x y) n h =
      let k = none_parts (m == n) (record { frames = fs; below = x }) (find x n) (find y n) h in
      edit_past g m n fs x y (eqb-false m n (cond_none (m == n) _ _ h).0) ∙ λ i. strand m fs (edit-absent g x n k.0 i) (edit-absent g y n k.1 i)

  stay_both : (g h : Branch F → Branch F) (k n : ℕ) (x : Strands F) → find x k ≡ None → find x n ≡ None → edit g x k ≡ edit h x n
  stay_both g h k n x a b = edit-absent g x k a ∙ sym (edit-absent h x n b)

  edit_both : (g h : Branch F → Branch F) (m k n : ℕ) (fs : List F) (x y : Strands F) → m ≢ k → m ≢ n → edit g x k ≡ edit h x n → edit g y k ≡ edit h y n → edit g (strand m fs x y) k ≡ edit h (strand m fs x y) n
  edit_both g h m k n fs x y a b p q = edit_past g m k fs x y a ∙ ((λ i. strand m fs (p i) (q i)) ∙ sym (edit_past h m n fs x y b))

  -- where a number is: at the first strand, or below it or after it alone
  data IsAt (m : ℕ) (fs : List F) (x y : Strands F) (n : ℕ) (b : Branch F) : Type 0 where
    here : m ≡ n → find x n ≡ None → find y n ≡ None → record { frames = fs; below = x } ≡ b → IsAt m fs x y n b
    inside : m ≢ n → find x n ≡ Some b → find y n ≡ None → IsAt m fs x y n b
    behind : m ≢ n → find x n ≡ None → find y n ≡ Some b → IsAt m fs x y n b

  differs : (m n : ℕ) (x : Strands F) (b : Branch F) → has x m ≡ false → find x n ≡ Some b → m ≢ n
  differs m n x b h e = λ same. both_ways (has x m) h (ap (has x) same ∙ ap is_some e)

module _ {F : Type 0} (m : ℕ) (fs : List F) (x y : Strands F) (d : AreDistinct (strand m fs x y)) where
  -- a number below the first strand is nowhere else
  below_only : (n : ℕ) (b : Branch F) → find x n ≡ Some b → (m ≢ n) × (find y n ≡ None)
  below_only n b e = (differs m n x b d.0 e, is_none (find y n) (d.2 n (ap is_some e)))

  -- nor is one after it
  after_only : (n : ℕ) (b : Branch F) → find y n ≡ Some b → (m ≢ n) × (find x n ≡ None)
  after_only n b e =
      let none : find x n ≡ None = elim (cases_Bool (has x n)) [
        | inl t ↦ absurd (both_ways (has y n) (d.2 n t) (ap is_some e))
        | inr t ↦ is_none (find x n) t
      ] in
      (differs m n y b d.1 e, none)

  place : (n : ℕ) (b : Branch F) → find (strand m fs x y) n ≡ Some b → IsAt m fs x y n b
  place n b e =
      elim (cases_Bool (m == n)) [
        | inl t ↦ (let k = eqb-true m n t in
            here k (is_none (find x n) (ap (has x) (sym k) ∙ d.0)) (is_none (find y n) (ap (has y) (sym k) ∙ d.1)) (same_Some _ b (sym (cond-true (m == n) _ _ t) ∙ e)))
        | inr t ↦ elim (or_some (find x n) (find y n) b (sym (cond-false (m == n) _ _ t) ∙ e)) [
          | inl k ↦ (let o = below_only n b k in inside o.0 k o.1)
          | inr k ↦ behind (eqb-false m n t) k.0 k.1
        ]
      ]

  find-below : (n : ℕ) (b : Branch F) → find x n ≡ Some b → find (strand m fs x y) n ≡ Some b
  find-below n b e = past m n fs x y (below_only n b e).0 ∙ ap (λ o. option_or o (find y n)) e

  find-after : (n : ℕ) (b : Branch F) → find y n ≡ Some b → find (strand m fs x y) n ≡ Some b
  find-after n b e = let o = after_only n b e in past m n fs x y o.0 ∙ (ap (λ o. option_or o (find y n)) o.1 ∙ e)

module _ {F : Type 0} where
  find-nth : (ss : Strands F) (i : ℕ) (c : Found F) → AreDistinct ss → nth ss i ≡ Some c → find ss c.number ≡ Some c.held
  find-nth no_strands i c d e = cc
  find-nth (strand m fs x y) zero c d e =
      subst (λ (u : Found F). find (strand m fs x y) u.number ≡ Some u.held) (same_Some _ c e) (cond-true (m == m) _ _ (eq-eqb m m refl))
  find-nth (strand m fs x y) (suc i) c d e = find-after m fs x y d c.number c.held (find-nth y i c d.4 e)

  -- the children of a strand are found by their numbers
  pub find-child : (ss : Strands F) (n i : ℕ) (b : Branch F) (c : Found F) → AreDistinct ss → find ss n ≡ Some b → nth b.below i ≡ Some c → find ss c.number ≡ Some c.held
  find-child no_strands n i b c d e h = cc
  find-child (strand m fs x y) n i b c d e h =
      elim (place m fs x y d n b e) [
        | here k ex ey s ↦ find-below m fs x y d c.number c.held (find-nth x i c d.3 (ap (λ (a : Branch F). nth a.below i) s ∙ h))
        | inside k ex ey ↦ find-below m fs x y d c.number c.held (find-child x n i b c d.3 ex h)
        | behind k ex ey ↦ find-after m fs x y d c.number c.held (find-child y n i b c d.4 ey h)
      ]

  -- so is the strand that places lead to
  pub find-walk : (ss : Strands F) (is : List ℕ) (r c : Found F) → AreDistinct ss → find ss r.number ≡ Some r.held → walk r is ≡ Some c → find ss c.number ≡ Some c.held
  find-walk ss [] r c d e h = subst (λ (u : Found F). find ss u.number ≡ Some u.held) (same_Some r c h) e
  find-walk ss (i ∷ is) r c d e h =
      option_and_then_some (λ (q : Found F). walk q is) (nth r.held.below i) c h (λ q at w. find-walk ss is q c d (find-child ss r.number i r.held q d e at) w)

  edit-nth : (g : Branch F → Branch F) (ss : Strands F) (i : ℕ) (c : Found F) → AreDistinct ss → nth ss i ≡ Some c → edit g ss c.number ≡ edit_nth g ss i
  edit-nth g no_strands i c d e = cc
  edit-nth g (strand m fs x y) zero c d e =
      let r = g (record { frames = fs; below = x }) in
      subst (λ (u : Found F). edit g (strand m fs x y) u.number ≡ edit_nth g (strand m fs x y) zero) (same_Some _ c e)
      (edit_here g m m fs x y refl ∙ ap (strand m r.frames r.below) (edit-absent g y m (is_none (find y m) d.1)))
  edit-nth g (strand m fs x y) (suc i) c d e =
      let o = after_only m fs x y d c.number c.held (find-nth y i c d.4 e) in
      edit_past g m c.number fs x y o.0 ∙ λ j. strand m fs (edit-absent g x c.number o.1 j) (edit-nth g y i c d.4 e j)

  -- a child is changed by its number or by its place
  pub edit-child : (g : Branch F → Branch F) (ss : Strands F) (n i : ℕ) (b : Branch F) (c : Found F) → AreDistinct ss → find ss n ≡ Some b → nth b.below i ≡ Some c → edit g ss c.number ≡ edit (λ b. record b { below = edit_nth g b.below i }) ss n
  edit-child g no_strands n i b c d e h = cc
  edit-child g (strand m fs x y) n i b c d e h =
      let w : Branch F → Branch F = λ a. record a { below = edit_nth g a.below i } in
      let k = c.number in
      elim (place m fs x y d n b e) [
        | here l ex ey s ↦ (let at = ap (λ (a : Branch F). nth a.below i) s ∙ h in
            let o = below_only m fs x y d k c.held (find-nth x i c d.3 at) in
            edit_past g m k fs x y o.0 ∙ ((λ j. strand m fs (edit-nth g x i c d.3 at j) (stay_both g w k n y o.1 ey j)) ∙ sym (edit_here w m n fs x y l)))
        | inside l ex ey ↦ (let o = below_only m fs x y d k c.held (find-child x n i b c d.3 ex h) in
            edit_both g w m k n fs x y o.0 l (edit-child g x n i b c d.3 ex h) (stay_both g w k n y o.1 ey))
        | behind l ex ey ↦ (let o = after_only m fs x y d k c.held (find-child y n i b c d.4 ey h) in
            edit_both g w m k n fs x y o.0 l (stay_both g w k n x o.1 ex) (edit-child g y n i b c d.4 ey h))
      ]

  -- so is the strand that places lead to
  pub edit-walk : (g : Branch F → Branch F) (ss : Strands F) (is : List ℕ) (r c : Found F) → AreDistinct ss → find ss r.number ≡ Some r.held → walk r is ≡ Some c → edit g ss c.number ≡ edit (along is g) ss r.number
  edit-walk g ss [] r c d e h = ap (λ (u : Found F). edit g ss u.number) (sym (same_Some r c h))
  edit-walk g ss (i ∷ is) r c d e h =
      option_and_then_some (λ (q : Found F). walk q is) (nth r.held.below i) c h
      (λ q at w. edit-walk g ss is q c d (find-child ss r.number i r.held q d e at) w ∙ edit-child (along is g) ss r.number i r.held q d e at)

  pub edit-edit : (g h : Branch F → Branch F) (ss : Strands F) (n : ℕ) → edit g (edit h ss n) n ≡ edit (λ b. g (h b)) ss n
  edit-edit g h no_strands n = refl
  edit-edit g h (strand m fs x y) n =
      elim (cases_Bool (m == n)) [
        | inl t ↦ (let k = eqb-true m n t in
            let r = h (record { frames = fs; below = x }) in
            ap (λ ss. edit g ss n) (edit_here h m n fs x y k)
            ∙ (edit_here g m n r.frames r.below (edit h y n) k
            ∙ (ap (strand m (g r).frames (g r).below) (edit-edit g h y n) ∙ sym (edit_here (λ b. g (h b)) m n fs x y k))))
        | inr t ↦ (let k = eqb-false m n t in
            ap (λ ss. edit g ss n) (edit_past h m n fs x y k)
            ∙ (edit_past g m n fs (edit h x n) (edit h y n) k
            ∙ ((λ i. strand m fs (edit-edit g h x n i) (edit-edit g h y n i)) ∙ sym (edit_past (λ b. g (h b)) m n fs x y k))))
      ]

  pub edit-same : (g h : Branch F → Branch F) (ss : Strands F) (n : ℕ) (b : Branch F) → AreDistinct ss → find ss n ≡ Some b → g b ≡ h b → edit g ss n ≡ edit h ss n
  edit-same g h no_strands n b d e s = refl
  edit-same g h (strand m fs x y) n b d e s =
      elim (place m fs x y d n b e) [
        | here k ex ey t ↦ edit_here g m n fs x y k
            ∙ ((λ i. strand m ((ap g t ∙ (s ∙ ap h (sym t))) i).frames ((ap g t ∙ (s ∙ ap h (sym t))) i).below (stay_both g h n n y ey ey i)) ∙ sym (edit_here h m n fs x y k))
        | inside k ex ey ↦ edit_both g h m n n fs x y k k (edit-same g h x n b d.3 ex s) (stay_both g h n n y ey ey)
        | behind k ex ey ↦ edit_both g h m n n fs x y k k (stay_both g h n n x ex ex) (edit-same g h y n b d.4 ey s)
      ]

  edit-identity : (ss : Strands F) (n : ℕ) → edit (λ b. b) ss n ≡ ss
  edit-identity no_strands n = refl
  edit-identity (strand m fs x y) n =
      elim (cases_Bool (m == n)) [
        | inl t ↦ edit_here (λ b. b) m n fs x y (eqb-true m n t) ∙ ap (strand m fs x) (edit-identity y n)
        | inr t ↦ edit_past (λ b. b) m n fs x y (eqb-false m n t) ∙ λ i. strand m fs (edit-identity x n i) (edit-identity y n i)
      ]

  pub edit-nothing : (g : Branch F → Branch F) (ss : Strands F) (n : ℕ) (b : Branch F) → AreDistinct ss → find ss n ≡ Some b → g b ≡ b → edit g ss n ≡ ss
  edit-nothing g ss n b d e s = edit-same g (λ b. b) ss n b d e s ∙ edit-identity ss n

  pub find-edit : (g : Branch F → Branch F) (ss : Strands F) (n : ℕ) (b : Branch F) → AreDistinct ss → find ss n ≡ Some b → find (edit g ss n) n ≡ Some (g b)
  find-edit g no_strands n b d e = cc
  find-edit g (strand m fs x y) n b d e =
      elim (place m fs x y d n b e) [
        | here k ex ey s ↦ ap (λ ss. find ss n) (edit_here g m n fs x y k) ∙ (cond-true (m == n) _ _ (eq-eqb m n k) ∙ ap (λ a. Some (g a)) s)
        | inside k ex ey ↦ ap (λ ss. find ss n) (edit_past g m n fs x y k)
            ∙ (past m n fs (edit g x n) (edit g y n) k ∙ ap (λ o. option_or o (find (edit g y n) n)) (find-edit g x n b d.3 ex))
        | behind k ex ey ↦ ap (λ ss. find ss n) (edit_past g m n fs x y k)
            ∙ (past m n fs (edit g x n) (edit g y n) k
            ∙ (ap (λ o. option_or o (find (edit g y n) n)) (ap (λ ss. find ss n) (edit-absent g x n ex) ∙ ex) ∙ find-edit g y n b d.4 ey))
      ]

  pub changed-edit : (f : List F → List F) (ss : Strands F) (n : ℕ) → AreDistinct ss → changed f ss n ≡ edit (λ b. record b { frames = f b.frames }) ss n
  changed-edit f no_strands n d = refl
  changed-edit f (strand m fs x y) n d =
      let g : Branch F → Branch F = λ b. record b { frames = f b.frames } in
      elim (cases_Bool (m == n)) [
        | inl t ↦ (let k = eqb-true m n t in
            (λ i. strand m (cond-true (m == n) (f fs) fs t i) (stays f x n (is_none (find x n) (ap (has x) (sym k) ∙ d.0)) i) (changed-edit f y n d.4 i)) ∙ sym (edit_here g m n fs x y k))
        | inr t ↦ (λ i. strand m (cond-false (m == n) (f fs) fs t i) (changed-edit f x n d.3 i) (changed-edit f y n d.4 i)) ∙ sym (edit_past g m n fs x y (eqb-false m n t))
      ]

  pub with_below-edit : (new ss : Strands F) (n : ℕ) → with_below new ss n ≡ edit (λ b. record b { below = new }) ss n
  with_below-edit new no_strands n = refl
  with_below-edit new (strand m fs x y) n =
      let g : Branch F → Branch F = λ b. record b { below = new } in
      elim (cases_Bool (m == n)) [
        | inl t ↦ (λ i. strand m fs (cond-true (m == n) new (with_below new x n) t i) (with_below-edit new y n i)) ∙ sym (edit_here g m n fs x y (eqb-true m n t))
        | inr t ↦ (λ i. strand m fs ((cond-false (m == n) new (with_below new x n) t ∙ with_below-edit new x n) i) (with_below-edit new y n i)) ∙ sym (edit_past g m n fs x y (eqb-false m n t))
      ]

  pub nth-edit_nth : (g : Branch F → Branch F) (ss : Strands F) (i : ℕ) (c : Found F) → nth ss i ≡ Some c → nth (edit_nth g ss i) i ≡ Some (record c { held = g c.held })
  nth-edit_nth g no_strands i c h = cc
  nth-edit_nth g (strand m fs x y) zero c h = ap (λ (u : Found F). Some (record u { held = g u.held })) (same_Some _ c h)
  nth-edit_nth g (strand m fs x y) (suc i) c h = nth-edit_nth g y i c h

  pub numbers-nth : (ss : Strands F) (i : ℕ) → slice_get (numbers ss) i ≡ option_map (λ c. c.number) (nth ss i)
  numbers-nth no_strands i = refl
  numbers-nth (strand m fs x y) zero = refl
  numbers-nth (strand m fs x y) (suc i) = numbers-nth y i

  pub child-nth : (t : Tree F) (n i : ℕ) (b : Branch F) → find t.strands n ≡ Some b → child t n i ≡ option_map (λ c. c.number) (nth b.below i)
  child-nth t n i b h = ap (option_and_then (λ b. slice_get (numbers b.below) i)) h ∙ numbers-nth b.below i
