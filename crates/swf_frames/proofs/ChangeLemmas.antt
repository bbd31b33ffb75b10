-- What a forest becomes where the frames of one row change.
use Rattle.std.proofs.Common.{◌≡◌, ◌≢◌, ◌∙◌, refl, sym, ap, subst, ℕ, zero, suc, ◌==◌, if◌then◌else◌, Bool, true, false, List, [], ◌∷◌, Some, slice_get, set, arith}
use Rattle.std.proofs.lemmas.Option.{same_Some, get_or_from_slice_get}
use Rattle.std.proofs.lemmas.Bool.{ne_eqb, eq-eqb, cond-true, cond-false}
use Rattle.std.proofs.Math.Seq.{map-set_same}
use Rattle.swf_frames.specs.Tree.{Strands, strand, no_strands, changed}
use Rattle.swf_frames.specs.Stacks.{Row, links, link_of, Rises, IsLinked, is_child_of, under, strands_of}
use Rattle.swf_frames.proofs.FindLemmas.{Lacks, at_least, lacks_lower}

module _ {F : Type 0} where
  -- the links stay
  pub same_links : (ss : List (Row F)) (i : ℕ) (s : Row F) (v : List F) → slice_get ss i ≡ Some s → links (set ss i (record s { frames = v })) ≡ links ss
  same_links ss i s v e = map-set_same link_of ss i (record s { frames = v }) s (sym (ap link_of (get_or_from_slice_get ss i s s e)))

module _ {F : Type 0} (f : List F → List F) where
  stay_step : (b : Bool) (m n : ℕ) (fs : List F) (x y : Strands F) → m ≢ n → changed f x n ≡ x → changed f y n ≡ y → changed f (if b then strand m fs x y else y) n ≡ if b then strand m fs x y else y
  stay_step false m n fs x y d hx hy = hy
  stay_step true m n fs x y d hx hy = λ i. strand m (cond-false (m == n) (f fs) fs (ne_eqb m n d) i) (hx i) (hy i)

  pub stay : (ss : List (Row F)) (n p : ℕ) → Lacks ss n → changed f (under p ss) n ≡ under p ss
  stay [] n p h = refl
  stay (s ∷ ss) n p h = stay_step (is_child_of p s.parent) s.number n s.frames (under s.number ss) (under p ss) (h zero s refl) (stay ss n s.number (λ j. h (suc j))) (stay ss n p (λ j. h (suc j)))

  pub all_stay : (ss : List (Row F)) (n : ℕ) → Lacks ss n → changed f (strands_of ss) n ≡ strands_of ss
  all_stay [] n h = refl
  all_stay (s ∷ ss) n h = stay_step true s.number n s.frames (under s.number ss) no_strands (h zero s refl) (stay ss n s.number (λ j. h (suc j))) refl

  here_step : (b : Bool) (m : ℕ) (fs gs : List F) (x y : Strands F) → gs ≡ f fs → changed f x m ≡ x → changed f y m ≡ y → (if b then strand m gs x y else y) ≡ changed f (if b then strand m fs x y else y) m
  here_step false m fs gs x y e hx hy = sym hy
  here_step true m fs gs x y e hx hy = λ i. strand m ((e ∙ sym (cond-true (m == m) (f fs) fs (eq-eqb m m refl))) i) (sym hx i) (sym hy i)

  there_step : (b : Bool) (m n : ℕ) (fs : List F) (x y u w : Strands F) → m ≢ n → u ≡ changed f x n → w ≡ changed f y n → (if b then strand m fs u w else w) ≡ changed f (if b then strand m fs x y else y) n
  there_step false m n fs x y u w d hx hy = hy
  there_step true m n fs x y u w d hx hy = λ i. strand m (sym (cond-false (m == n) (f fs) fs (ne_eqb m n d)) i) (hx i) (hy i)

  pub changes : (ss : List (Row F)) (low next : ℕ) → Rises low (links ss) next → (i p : ℕ) (s : Row F) (v : List F) → slice_get ss i ≡ Some s → v ≡ f s.frames → under p (set ss i (record s { frames = v })) ≡ changed f (under p ss) s.number
  changes [] low next r i p s v e h = cc
  changes (t ∷ ss) low next r zero p s v e h =
      let P : Row F → Type 0 = λ u. v ≡ f u.frames → under p (record u { frames = v } ∷ ss) ≡ changed f (under p (t ∷ ss)) u.number in
      let lacks = lacks_lower ss (suc t.number) next t.number r.1 (omega arith) in
      subst P (same_Some t s e) (λ k. here_step (is_child_of p t.parent) t.number t.frames v (under t.number ss) (under p ss) k (stay ss t.number t.number lacks) (stay ss t.number p lacks)) h
  changes (t ∷ ss) low next r (suc i) p s v e h =
      let d : t.number ≢ s.number = λ same. let k = at_least ss (suc t.number) next r.1 i s e in absurd (omega arith) in
      there_step (is_child_of p t.parent) t.number s.number t.frames (under t.number ss) (under p ss) _ _ d (changes ss (suc t.number) next r.1 i t.number s v e h) (changes ss (suc t.number) next r.1 i p s v e h)

  pub all_changes : (ss : List (Row F)) (next : ℕ) → IsLinked (links ss) next → (i : ℕ) (s : Row F) (v : List F) → slice_get ss i ≡ Some s → v ≡ f s.frames → strands_of (set ss i (record s { frames = v })) ≡ changed f (strands_of ss) s.number
  all_changes [] next l i s v e h = cc
  all_changes (t ∷ ss) next l zero s v e h =
      let P : Row F → Type 0 = λ u. v ≡ f u.frames → strands_of (record u { frames = v } ∷ ss) ≡ changed f (strands_of (t ∷ ss)) u.number in
      subst P (same_Some t s e) (λ k. here_step true t.number t.frames v (under t.number ss) no_strands k (stay ss t.number t.number (lacks_lower ss (suc t.number) next t.number l.0.1 (omega arith))) refl) h
  all_changes (t ∷ ss) next l (suc i) s v e h =
      let d : t.number ≢ s.number = λ same. let k = at_least ss (suc t.number) next l.0.1 i s e in absurd (omega arith) in
      there_step true t.number s.number t.frames (under t.number ss) no_strands _ _ d (changes ss (suc t.number) next l.0.1 i t.number s v e h) refl
