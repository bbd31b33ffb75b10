-- The strands of rows have numbers of their own, and there are as many as rows.
use Rattle.std.proofs.Common.{◌≡◌, ◌≢◌, ◌⊎◌, inl, inr, ◌∙◌, refl, sym, ap, ℕ, suc, ◌+◌, ◌<◌, ◌≤◌, ◌||◌, if◌then◌else◌, Bool, true, false, List, [], ◌∷◌, Option, Some, None, length, arith}
use Rattle.std.proofs.lemmas.Bool.{ne_eqb, eqb-true, cond-true, cond-false, cases_Bool, cases_eq, both_ways}
use Rattle.std.specs.List.{list_any}
use Rattle.std.specs.Option.{option_or, is_some}
use Rattle.swf_frames.specs.Tree.{Strands, strand, no_strands, find, count}
use Rattle.swf_frames.specs.Paths.{has, AreDistinct}
use Rattle.swf_frames.specs.Stacks.{Row, links, Rises, HasParents, IsLinked, is_child_of, under, strands_of}
use Rattle.swf_frames.proofs.FindLemmas.{past, lacks_lower, absent}

-- no parent has two numbers
one_parent : (p q : ℕ) (o : Option ℕ) → p ≢ q → is_child_of p o ≡ true → is_child_of q o ≡ false
one_parent p q None d h = refl
one_parent p q (Some x) d h = ne_eqb x q (λ e. d (sym (eqb-true x p h) ∙ e))

swap : {A B : Type 0} → A ⊎ B → B ⊎ A
swap (inl a) = inr a
swap (inr b) = inl b

-- each is below the one before it, and all are below the first bound
abbrev Falls : ℕ → List ℕ → Type 0
Falls high [] = Unit {0}
Falls high (p ∷ ps) = (p < high) × Falls p ps

falls_more : (a b : ℕ) (ps : List ℕ) → a ≤ b → Falls a ps → Falls b ps
falls_more a b [] l f = tt
falls_more a b (p ∷ ps) l f = (omega arith, f.1)

module _ {F : Type 0} where
  abbrev IsApart : Strands F → Strands F → ℕ → Type 0
  IsApart x y n = (find x n ≡ None) ⊎ (find y n ≡ None)

  apart_from : (m n : ℕ) (fs : List F) (x y z : Strands F) → find z m ≡ None → IsApart x z n → IsApart y z n → IsApart (strand m fs x y) z n
  apart_from m n fs x y z h (inr a) hy = inr a
  apart_from m n fs x y z h (inl a) (inr b) = inr b
  apart_from m n fs x y z h (inl a) (inl b) =
      elim (cases_eq m n) [
        | inl e ↦ inr (ap (find z) (sym e) ∙ h)
        | inr d ↦ inl (past m n fs x y d ∙ (ap (λ o. option_or o (find y n)) a ∙ b))
      ]

  apart_step : (a b : Bool) (m n : ℕ) (fs : List F) (x y z : Strands F) → (a ≡ true → b ≡ false) → find y m ≡ None → find z m ≡ None → IsApart x y n → IsApart x z n → IsApart y z n → IsApart (if a then strand m fs x y else y) (if b then strand m fs x z else z) n
  apart_step false false m n fs x y z f hy hz p q r = r
  apart_step false true m n fs x y z f hy hz p q r = swap (apart_from m n fs x z y hy p (swap r))
  apart_step true false m n fs x y z f hy hz p q r = apart_from m n fs x y z hz q r
  apart_step true true m n fs x y z f hy hz p q r = (let k = f refl in cc)

  -- no number stands under two others
  apart : (rs : List (Row F)) (low next : ℕ) → Rises low (links rs) next → (p q n : ℕ) → p < low → q < low → p ≢ q → IsApart (under p rs) (under q rs) n
  apart [] low next r p q n a b d = inl refl
  apart (t ∷ rs) low next r p q n a b d =
      let none : (k : ℕ) → find (under k rs) t.number ≡ None = λ k. absent rs t.number k (lacks_lower rs (suc t.number) next t.number r.1 (omega arith)) in
      let rest : (k l : ℕ) → k < suc t.number → l < suc t.number → k ≢ l → IsApart (under k rs) (under l rs) n = λ k l. apart rs (suc t.number) next r.1 k l n in
      apart_step (is_child_of p t.parent) (is_child_of q t.parent) t.number n t.frames (under t.number rs) (under p rs) (under q rs) (one_parent p q t.parent d) (none p) (none q)
      (rest t.number p (omega arith) (omega arith) (λ e. absurd (omega arith)))
      (rest t.number q (omega arith) (omega arith) (λ e. absurd (omega arith)))
      (rest p q (omega arith) (omega arith) d)

  distinct_step : (b : Bool) (m : ℕ) (fs : List F) (x y : Strands F) → find x m ≡ None → find y m ≡ None → ((n : ℕ) → IsApart x y n) → AreDistinct x → AreDistinct y → AreDistinct (if b then strand m fs x y else y)
  distinct_step false m fs x y hx hy f dx dy = dy
  distinct_step true m fs x y hx hy f dx dy =
      (ap is_some hx, ap is_some hy, λ n h. elim (f n) [ inl a ↦ absurd (both_ways (has x n) (ap is_some a) h) | inr b ↦ ap is_some b ], dx, dy)

  distinct_under : (rs : List (Row F)) (low next : ℕ) → Rises low (links rs) next → (p : ℕ) → p < low → AreDistinct (under p rs)
  distinct_under [] low next r p l = tt
  distinct_under (t ∷ rs) low next r p l =
      let none : (k : ℕ) → find (under k rs) t.number ≡ None = λ k. absent rs t.number k (lacks_lower rs (suc t.number) next t.number r.1 (omega arith)) in
      distinct_step (is_child_of p t.parent) t.number t.frames (under t.number rs) (under p rs) (none t.number) (none p)
      (λ n. apart rs (suc t.number) next r.1 t.number p n (omega arith) (omega arith) (λ e. absurd (omega arith)))
      (distinct_under rs (suc t.number) next r.1 t.number (omega arith)) (distinct_under rs (suc t.number) next r.1 p (omega arith))

  pub all_distinct : (rs : List (Row F)) (next : ℕ) → IsLinked (links rs) next → AreDistinct (strands_of rs)
  all_distinct [] next l = tt
  all_distinct (t ∷ rs) next l =
      distinct_step true t.number t.frames (under t.number rs) no_strands (absent rs t.number t.number (lacks_lower rs (suc t.number) next t.number l.0.1 (omega arith))) refl (λ n. inr refl)
      (distinct_under rs (suc t.number) next l.0.1 t.number (omega arith)) tt

  -- how many stand under these
  abbrev total : List ℕ → List (Row F) → ℕ
  total [] rs = 0
  total (p ∷ ps) rs = count (under p rs) + total ps rs

  total_same : (t : Row F) (rs : List (Row F)) (p high : ℕ) (ps : List ℕ) → Falls high ps → high ≤ p → is_child_of p t.parent ≡ true → total ps (t ∷ rs) ≡ total ps rs
  total_same t rs p high [] f l h = refl
  total_same t rs p high (q ∷ ps) f l h =
      let other = one_parent p q t.parent (λ e. absurd (omega arith)) h in
      λ i. count (cond-false (is_child_of q t.parent) (strand t.number t.frames (under t.number rs) (under q rs)) (under q rs) other i) + total_same t rs p q ps f.1 (omega arith) h i

  -- a row stands under one of those that were seen
  total_step : (t : Row F) (rs : List (Row F)) (high : ℕ) (ps : List ℕ) → Falls high ps → list_any (λ n. is_child_of n t.parent) ps ≡ true → total ps (t ∷ rs) ≡ 1 + (count (under t.number rs) + total ps rs)
  total_step t rs high [] f h = cc
  total_step t rs high (p ∷ ps) f h =
      let whole = strand t.number t.frames (under t.number rs) (under p rs) in
      elim (cases_Bool (is_child_of p t.parent)) [
        | inl a ↦ (let first = ap count (cond-true (is_child_of p t.parent) whole (under p rs) a) in
            let rest = total_same t rs p p ps f.1 (omega arith) a in
            omega arith)
        | inr a ↦ (let first = ap count (cond-false (is_child_of p t.parent) whole (under p rs) a) in
            let rest = total_step t rs p ps f.1 (ap (λ b. b || list_any (λ n. is_child_of n t.parent) ps) (sym a) ∙ h) in
            omega arith)
      ]

module _ (F : Type 0) where
  total_none : (ps : List ℕ) → total {F = F} ps [] ≡ 0
  total_none [] = refl
  total_none (p ∷ ps) = let rest = total_none ps in omega arith

module _ {F : Type 0} where
  total_all : (rs : List (Row F)) (low next : ℕ) (seen : List ℕ) → Rises low (links rs) next → Falls low seen → HasParents seen (links rs) → total seen rs ≡ length rs
  total_all [] low next seen r f h = total_none F seen
  total_all (t ∷ rs) low next seen r f h =
      let step = total_step t rs low seen f h.0 in
      let rest = total_all rs (suc t.number) next (t.number ∷ seen) r.1 (omega arith, falls_more low t.number seen r.0 f) h.1 in
      omega arith

  pub counted : (rs : List (Row F)) (next : ℕ) → IsLinked (links rs) next → count (strands_of rs) ≡ length rs
  counted [] next l = refl
  counted (t ∷ rs) next l =
      let below = total_all rs (suc t.number) next (t.number ∷ []) l.0.1 (omega arith, tt) l.1.1 in
      omega arith
