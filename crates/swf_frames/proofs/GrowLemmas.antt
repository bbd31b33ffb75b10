-- A forest whose strand is split or closed: each strand goes on knowing its children.
use Rattle.std.proofs.Common.{◌≡◌, ◌≢◌, inl, inr, ◌∙◌, refl, sym, ap, subst, ℕ, zero, suc, ◌+◌, ◌<◌, if◌then◌else◌, List, [], ◌∷◌, ◌++◌, Some, option_map, length, drop, slice_get, set, arith}
use Rattle.std.proofs.lemmas.Option.{same_Some}
use Rattle.std.proofs.lemmas.Bool.{cases_Bool, cases_eq}
use Rattle.swf_frames.specs.Tree.{Strands, strand, no_strands, numbers, with_below, fresh}
use Rattle.swf_frames.specs.Stacks.{Row, row_of, rows, links, number_at, no_children, Rises, IsLinked, is_child_of, under, strands_of, is_below, kept, fresh_rows}
use Rattle.swf_frames.specs.Kin.{numbers_from, KnowChildren, IsForest, with_children}
use Rattle.swf_frames.proofs.FindLemmas.{at_least}
use Rattle.swf_frames.proofs.FamilyLemmas.{number_row}
use Rattle.swf_frames.proofs.SplitLemmas.{Childless, childless_at, childless_gets, fresh_elsewhere, splits, all_split, linked_more, below_next}
use Rattle.swf_frames.proofs.CloseLemmas.{skip, take_in, dropped, below_itself, kept_itself, closes, all_closes, linked_kept}
use Rattle.swf_frames.specs.declared.stack.Children.{Children}
use Rattle.swf_frames.proofs.ViewLemmas.{IsRead, row_there, number_there}
use Rattle.swf_frames.specs.declared.stack.Stack.{Stack}
use Rattle.swf_frames.proofs.KinLemmas.{known_at}

module _ {F : Type 0} where
  numbers_below : (new x : Strands F) (n : ℕ) → numbers (with_below new x n) ≡ numbers x
  numbers_below new no_strands n = refl
  numbers_below new (strand m fs below after) n = ap (λ ms. m ∷ ms) (numbers_below new after n)

  numbers_fresh : (k : ℕ) (fs : List F) → numbers (fresh k fs) ≡ numbers_from k (length fs)
  numbers_fresh k [] = refl
  numbers_fresh k (f ∷ fs) = ap (λ ms. k ∷ ms) (numbers_fresh (suc k) fs)

  no_numbers : (x : Strands F) → numbers x ≡ [] → x ≡ no_strands
  no_numbers no_strands e = refl
  no_numbers (strand m fs below after) e = cc

  -- other children at a place
  under_same : (rs : List (Row F)) (i : ℕ) (c : Children) (p : ℕ) → under p (with_children rs i c) ≡ under p rs
  under_same [] i c p = refl
  under_same (r ∷ rs) zero c p = refl
  under_same (r ∷ rs) (suc i) c p = λ j. if is_child_of p r.parent then strand r.number r.frames (under_same rs i c r.number j) (under_same rs i c p j) else under_same rs i c p j

  strands_same : (rs : List (Row F)) (i : ℕ) (c : Children) → strands_of (with_children rs i c) ≡ strands_of rs
  strands_same [] i c = refl
  strands_same (r ∷ rs) zero c = refl
  strands_same (r ∷ rs) (suc i) c = ap (λ x. strand r.number r.frames x no_strands) (under_same rs i c r.number)

  pub links_same : (rs : List (Row F)) (i : ℕ) (c : Children) → links (with_children rs i c) ≡ links rs
  links_same [] i c = refl
  links_same (r ∷ rs) zero c = refl
  links_same (r ∷ rs) (suc i) c = ap (λ ls. record { number = r.number; parent = r.parent } ∷ ls) (links_same rs i c)

  childless_same : (rs : List (Row F)) (i : ℕ) (c : Children) (n : ℕ) → Childless n rs → Childless n (with_children rs i c)
  childless_same [] i c n h = tt
  childless_same (r ∷ rs) zero c n h = h
  childless_same (r ∷ rs) (suc i) c n h = (λ e. under_same rs i c n ∙ h.0 e, childless_same rs i c n h.1)

  row_with : (rs : List (Row F)) (i : ℕ) (r : Row F) (c : Children) → slice_get rs i ≡ Some r → slice_get (with_children rs i c) i ≡ Some (record r { children = c })
  row_with [] i r c e = cc
  row_with (x ∷ xs) zero r c e = ap (λ (u : Row F). Some (record u { children = c })) (same_Some x r e)
  row_with (x ∷ xs) (suc i) r c e = row_with xs i r c e

  pub children_set : (rs : List (Row F)) (i : ℕ) (r : Row F) (c : Children) → slice_get rs i ≡ Some r → set rs i (record r { children = c }) ≡ with_children rs i c
  children_set [] i r c e = cc
  children_set (x ∷ xs) zero r c e = ap (λ (u : Row F). record u { children = c } ∷ xs) (sym (same_Some x r e))
  children_set (x ∷ xs) (suc i) r c e = ap (λ rs. x ∷ rs) (children_set xs i r c e)

  -- each but that of a number knows its children, and that one has these
  abbrev KnowBut : ℕ → Children → List (Row F) → Type 0
  KnowBut n c [] = Unit {0}
  KnowBut n c (r ∷ rs) =
      (r.number ≡ n → r.children ≡ c) × (r.number ≢ n → numbers (under r.number rs) ≡ numbers_from r.children.first r.children.count) × KnowBut n c rs

  know_behind : (rs : List (Row F)) (low next n : ℕ) (c : Children) → Rises low (links rs) next → n < low → KnowChildren rs → KnowBut n c rs
  know_behind [] low next n c r l h = tt
  know_behind (x ∷ xs) low next n c r l h = (λ e. absurd (omega arith), λ d. h.0, know_behind xs (suc x.number) next n c r.1 (omega arith) h.1)

  know_but : (rs : List (Row F)) (low next : ℕ) → Rises low (links rs) next → (i n : ℕ) (c : Children) → number_at rs i ≡ Some n → KnowChildren rs → KnowBut n c (with_children rs i c)
  know_but [] low next r i n c e h = cc
  know_but (x ∷ xs) low next r zero n c e h =
      let same : x.number ≡ n = same_Some x.number n e in
      (λ _. refl, λ d. absurd (d same), know_behind xs (suc x.number) next n c r.1 (omega arith) h.1)
  know_but (x ∷ xs) low next r (suc i) n c e h =
      let k = number_row xs i n e in
      let l = at_least xs (suc x.number) next r.1 i k.0 k.1 in
      let number = k.2 in
      (λ same. absurd (omega arith), λ d. ap numbers (under_same xs i c x.number) ∙ h.0, know_but xs (suc x.number) next r.1 i n c e h.1)

  fresh_known : (n k : ℕ) (fs : List F) → n < k → KnowChildren (fresh_rows n k fs)
  fresh_known n k [] l = tt
  fresh_known n k (f ∷ fs) l =
      let d : n ≢ k = λ e. absurd (omega arith) in
      (ap numbers (fresh_elsewhere n k (suc k) fs d), fresh_known n (suc k) fs (omega arith))

  split_known : (rs : List (Row F)) (n k : ℕ) (fs : List F) → n < k → Childless n rs → KnowBut n (record { first = k; count = length fs }) rs → KnowChildren (rs ++ fresh_rows n k fs)
  split_known [] n k fs l h b = fresh_known n k fs l
  split_known (x ∷ xs) n k fs l h b =
      let first : numbers (under x.number (xs ++ fresh_rows n k fs)) ≡ numbers_from x.children.first x.children.count = elim (cases_eq x.number n) [
        | inl e ↦ ap (λ q. numbers (under q (xs ++ fresh_rows n k fs))) e
            ∙ (ap numbers (childless_gets n k fs xs l (h.0 e)) ∙ (numbers_fresh k fs ∙ ap (λ (c : Children). numbers_from c.first c.count) (sym (b.0 e))))
        | inr d ↦ ap numbers (splits n k fs xs x.number d l h.1) ∙ (numbers_below (fresh k fs) (under x.number xs) n ∙ b.1 d)
      ] in
      (first, split_known xs n k fs l h.1 b.2)

  kept_known : (n : ℕ) (rs done : List (Row F)) (low next : ℕ) → Rises low (links rs) next → KnowBut n no_children rs → KnowChildren (kept n done rs)
  kept_known n [] done low next r b = tt
  kept_known n (x ∷ xs) done low next r b =
      elim (cases_Bool (is_below n done x.parent)) [
        | inl t ↦ subst KnowChildren (sym (skip n done x xs t)) (kept_known n xs done (suc x.number) next r.1 b.2)
        | inr t ↦ (let all = done ++ x ∷ [] in
            let first : numbers (under x.number (kept n all xs)) ≡ numbers_from x.children.first x.children.count = elim (cases_eq x.number n) [
              | inl e ↦ ap numbers (dropped n xs all x.number (suc x.number) next r.1 (omega arith) (below_itself n all x.number e)) ∙ ap (λ (c : Children). numbers_from c.first c.count) (sym (b.0 e))
              | inr d ↦ ap numbers (closes n xs all x.number (suc x.number) next r.1 (omega arith) (kept_itself n done x d)) ∙ (numbers_below no_strands (under x.number xs) n ∙ b.1 d)
            ] in
            subst KnowChildren (sym (take_in n done x xs t)) (first, kept_known n xs all (suc x.number) next r.1 b.2))
      ]

  -- a strand with no children is split
  pub split_rows : (rs : List (Row F)) (next : ℕ) → IsForest rs next → (i : ℕ) (r : Row F) → slice_get rs i ≡ Some r → r.children.count ≡ 0 → (fs : List F) (new : List (Row F)) → new ≡ with_children rs i (record { first = next; count = length fs }) ++ fresh_rows r.number next fs → (strands_of new ≡ with_below (fresh next fs) (strands_of rs) r.number) × IsForest new (next + length fs)
  split_rows rs next l i r e none fs new is =
      let c : Children = record { first = next; count = length fs } in
      let n = r.number in
      let noted = with_children rs i c in
      let empty = no_numbers (under n (drop (suc i) rs)) (known_at rs l.1 i r e ∙ ap (numbers_from r.children.first) none) in
      let childless : Childless n noted = childless_same rs i c n (childless_at rs 0 next l.0.0 i r e empty) in
      let low : n < next = below_next rs 0 next l.0.0 i r e in
      let linked : IsLinked (links noted) next = subst (λ ls. IsLinked ls next) (sym (links_same rs i c)) l.0 in
      let known : KnowBut n c noted = know_but rs 0 next l.0.0 i n c (ap (λ o. option_map (λ (u : Row F). u.number) o) e) l.1 in (
        ap strands_of is ∙ (all_split noted next linked n next fs low childless ∙ ap (λ x. with_below (fresh next fs) x n) (strands_same rs i c)),
        subst (λ xs. IsForest xs (next + length fs)) (sym is) (linked_more noted next linked i (record r { children = c }) (row_with rs i r c e) fs, split_known noted n next fs low childless known),
      )

  -- those below a strand go
  pub close_rows : (rs : List (Row F)) (next : ℕ) → IsForest rs next → (i n : ℕ) → number_at rs i ≡ Some n → (new : List (Row F)) → new ≡ kept n [] (with_children rs i no_children) → (strands_of new ≡ with_below no_strands (strands_of rs) n) × IsForest new next
  close_rows rs next l i n e new is =
      let noted = with_children rs i no_children in
      let linked : IsLinked (links noted) next = subst (λ ls. IsLinked ls next) (sym (links_same rs i no_children)) l.0 in (
        ap strands_of is ∙ (all_closes noted next linked n ∙ ap (λ x. with_below no_strands x n) (strands_same rs i no_children)),
        subst (λ xs. IsForest xs next) (sym is) (linked_kept noted next linked n, kept_known n noted [] 0 next linked.0 (know_but rs 0 next l.0.0 i n no_children e l.1)),
      )

module _ {F : Type 0} {ss : List (Stack F)} {next n i : ℕ} {s : Stack F} (h : IsRead ss next n i s) where
  pub split_there : s.children.count ≡ 0 → (fs : List F) (new : List (Stack F)) → rows new ≡ with_children (rows ss) i (record { first = next; count = length fs }) ++ fresh_rows n next fs → (strands_of (rows new) ≡ with_below (fresh next fs) (strands_of (rows ss)) n) × IsForest (rows new) (next + length fs)
  split_there none fs new =
      let P : ℕ → Type 0 = λ m. rows new ≡ with_children (rows ss) i (record { first = next; count = length fs }) ++ fresh_rows m next fs → (strands_of (rows new) ≡ with_below (fresh next fs) (strands_of (rows ss)) m) × IsForest (rows new) (next + length fs) in
      subst P (number_there h) (λ k. split_rows (rows ss) next h.forest i (row_of s) (row_there h) none fs (rows new) k)
