-- Walks over the rows of a forest.
use Rattle.std.proofs.Common.{◌≡◌, inl, inr, ◌∙◌, refl, sym, ap, ℕ, zero, suc, ◌+◌, ◌<◌, if◌then◌else◌, true, false, List, [], ◌∷◌, ◌++◌, Some, length, drop, get_or, slice_get, arith}
use Rattle.std.proofs.lemmas.Bool.{cond-true, cond-false, cases_Bool}
use Rattle.std.proofs.lemmas.List.{drop_more, length-append, append-nil, append_assoc}
use Rattle.std.proofs.lemmas.Option.{same_Some}
use Rattle.swf_frames.specs.Tree.{Strands, strand, no_strands, numbers, has_none, leaves}
use Rattle.swf_frames.specs.Stacks.{Row, row_of, rows, number_at, is_child_of, under, strands_of}
use Rattle.swf_frames.specs.declared.stack.Stack.{Stack}

none_in : (xs ys : List ℕ) → xs ++ ys ≡ [] → xs ≡ []
none_in [] ys e = refl
none_in (x ∷ xs) ys e = cc

pub length_nil : (xs : List ℕ) → length xs ≡ 0 → xs ≡ []
length_nil [] e = refl
length_nil (x ∷ xs) e = absurd (omega arith)

pub nothing_more : (xs ys zs : List ℕ) → zs ≡ xs ++ ys → length zs ≡ length xs → ys ≡ []
nothing_more xs ys zs e l = length_nil ys (omega (arith, ap length e, length-append xs ys))

module _ {F : Type 0} where
  -- the rows from a place on begin with that of the stack there
  pub rest_begins : (ss : List (Stack F)) (i : ℕ) (s : Stack F) → i < length ss → s ≡ get_or ss i s → rows (drop i ss) ≡ row_of s ∷ rows (drop (i + 1) ss)
  rest_begins ss i s l e = ap rows (drop_more ss i s l) ∙ ap (λ (t : Stack F). row_of t ∷ rows (drop (i + 1) ss)) (sym e)

  pub under_child : (p : ℕ) (ss : List (Stack F)) (i : ℕ) (s : Stack F) → i < length ss → s ≡ get_or ss i s → is_child_of p s.parent ≡ true → under p (rows (drop i ss)) ≡ strand s.strand s.frames.items (under s.strand (rows (drop (i + 1) ss))) (under p (rows (drop (i + 1) ss)))
  under_child p ss i s l e h = ap (under p) (rest_begins ss i s l e) ∙ cond-true (is_child_of p s.parent) _ _ h

  pub under_other : (p : ℕ) (ss : List (Stack F)) (i : ℕ) (s : Stack F) → i < length ss → s ≡ get_or ss i s → is_child_of p s.parent ≡ false → under p (rows (drop i ss)) ≡ under p (rows (drop (i + 1) ss))
  under_other p ss i s l e h = ap (under p) (rest_begins ss i s l e) ∙ cond-false (is_child_of p s.parent) _ _ h

  leaves_none : (x : Strands F) → leaves x ≡ [] → has_none x ≡ true
  leaves_none no_strands e = refl
  leaves_none (strand m fs below after) e =
      elim (cases_Bool (has_none below)) [
        | inl h ↦ (let k : m ∷ leaves after ≡ [] = ap (λ b. (if b then m ∷ [] else leaves below) ++ leaves after) (sym h) ∙ e in cc)
        | inr h ↦ (let k : leaves below ≡ [] = none_in (leaves below) (leaves after) (ap (λ b. (if b then m ∷ [] else leaves below) ++ leaves after) (sym h) ∙ e) in
            let t = leaves_none below k in cc)
      ]

  pub leaf_step : (m : ℕ) (fs : List F) (x y : Strands F) → leaves x ≡ [] → leaves (strand m fs x y) ≡ m ∷ leaves y
  leaf_step m fs x y e = ap (λ b. (if b then m ∷ [] else leaves x) ++ leaves y) (leaves_none x e)

  none_leaves : (x : Strands F) → has_none x ≡ true → leaves x ≡ []
  none_leaves no_strands e = refl
  none_leaves (strand m fs below after) e = cc

  pub inner_step : (m : ℕ) (fs : List F) (x y : Strands F) → 0 < length (leaves x) → leaves (strand m fs x y) ≡ leaves x ++ leaves y
  inner_step m fs x y h =
      elim (cases_Bool (has_none x)) [
        | inl t ↦ (let k = ap length (none_leaves x t) in absurd (omega arith))
        | inr t ↦ ap (λ b. (if b then m ∷ [] else leaves x) ++ leaves y) t
      ]

  -- a leaf is told after those before it
  pub leaf_told : (old new all : List ℕ) (m : ℕ) (fs : List F) (x y u : Strands F) → new ≡ old ++ leaves x → length new ≡ length old → u ≡ strand m fs x y → old ++ leaves u ≡ all → (new ++ m ∷ []) ++ leaves y ≡ all
  leaf_told old new all m fs x y u e l h a =
      let none = nothing_more old (leaves x) new e l in
      let same : new ≡ old = e ∙ (ap (λ xs. old ++ xs) none ∙ append-nil old) in
      append_assoc new (m ∷ []) (leaves y)
      ∙ (ap (λ xs. xs ++ (m ∷ leaves y)) same
      ∙ (ap (λ xs. old ++ xs) (sym (ap leaves h ∙ leaf_step m fs x y none)) ∙ a))

  -- what is told of those below a strand that is no leaf
  pub inner_told : (old new all : List ℕ) (m : ℕ) (fs : List F) (x y u : Strands F) → new ≡ old ++ leaves x → (length new ≡ length old → ⊥) → u ≡ strand m fs x y → old ++ leaves u ≡ all → new ++ leaves y ≡ all
  inner_told old new all m fs x y u e l h a =
      let some : 0 < length (leaves x) = omega (arith, ap length e, length-append old (leaves x), l) in
      ap (λ xs. xs ++ leaves y) e
      ∙ (append_assoc old (leaves x) (leaves y)
      ∙ (ap (λ xs. old ++ xs) (sym (ap leaves h ∙ inner_step m fs x y some)) ∙ a))

  pub root_leaf : (ss : List (Stack F)) (root : ℕ) → numbers (strands_of (rows ss)) ≡ root ∷ [] → leaves (under root (rows (drop 1 ss))) ≡ [] → leaves (strands_of (rows ss)) ≡ root ∷ []
  root_leaf [] root e h = cc
  root_leaf (s ∷ ss) root e h =
      let same : s.strand ≡ root = cc in
      leaf_step s.strand s.frames.items (under s.strand (rows ss)) no_strands (ap (λ n. leaves (under n (rows ss))) same ∙ h) ∙ ap (λ n. n ∷ []) same

  pub root_inner : (ss : List (Stack F)) (root : ℕ) → numbers (strands_of (rows ss)) ≡ root ∷ [] → 0 < length (leaves (under root (rows (drop 1 ss)))) → leaves (strands_of (rows ss)) ≡ leaves (under root (rows (drop 1 ss)))
  root_inner [] root e h = cc
  root_inner (s ∷ ss) root e h =
      let same : s.strand ≡ root = cc in
      let below : leaves (under s.strand (rows ss)) ≡ leaves (under root (rows ss)) = ap (λ n. leaves (under n (rows ss))) same in
      inner_step s.strand s.frames.items (under s.strand (rows ss)) no_strands (omega (arith, h, ap length below))
      ∙ (append-nil (leaves (under s.strand (rows ss))) ∙ below)

  pub number_row : (rs : List (Row F)) (i n : ℕ) → number_at rs i ≡ Some n → (r : Row F) × (slice_get rs i ≡ Some r) × (r.number ≡ n)
  number_row [] i n e = cc
  number_row (r ∷ rs) zero n e = (r, refl, same_Some r.number n e)
  number_row (r ∷ rs) (suc i) n e = number_row rs i n e
