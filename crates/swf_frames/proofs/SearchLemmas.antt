-- The search for a number among those of the stacks.
use Rattle.std.proofs.Common.{◌≡◌, inl, inr, ◌∙◌, refl, sym, ap, subst, ℕ, zero, suc, ◌+◌, ◌<◌, ◌≤◌, List, [], ◌∷◌, Some, slice_get, option_map, length, arith}
use Rattle.std.proofs.lemmas.Option.{same_Some, slice_get_within, slice_get-map}
use Rattle.std.proofs.lemmas.Bool.{cases_lt}
use Rattle.swf_frames.specs.Stacks.{Row, row_of, rows, links, Rises}
use Rattle.swf_frames.proofs.FindLemmas.{Lacks, rises}
use Rattle.swf_frames.specs.declared.stack.Stack.{Stack}

module _ {F : Type 0} where
  -- each stack before the low place has a lower number, and each from the high place on a higher one
  pub record IsSearched (ss : List (Stack F)) (n low high : ℕ) : Type 0 where
    pub in_range : high ≤ length ss
    pub lower : (k : ℕ) (s : Stack F) → k < low → slice_get ss k ≡ Some s → s.strand < n
    pub higher : (k : ℕ) (s : Stack F) → high ≤ k → slice_get ss k ≡ Some s → n < s.strand

  pub at_rows : (ss : List (Stack F)) (i : ℕ) (s : Stack F) → slice_get ss i ≡ Some s → slice_get (rows ss) i ≡ Some (row_of s)
  at_rows ss i s e = slice_get-map row_of ss i ∙ ap (option_map row_of) e

  pub from_rows : (ss : List (Stack F)) (i : ℕ) (r : Row F) → slice_get (rows ss) i ≡ Some r → (s : Stack F) × (slice_get ss i ≡ Some s) × (row_of s ≡ r)
  from_rows [] i r e = cc
  from_rows (s ∷ ss) zero r e = (s, refl, same_Some (row_of s) r e)
  from_rows (s ∷ ss) (suc i) r e = from_rows ss i r e

  pub begins : (ss : List (Stack F)) (n : ℕ) → IsSearched ss n 0 (length ss)
  begins ss n = record {
    in_range = omega arith;
    lower = λ k s l e. absurd (omega arith);
    higher = λ k s l e. let h = slice_get_within ss k s e in absurd (omega arith);
  }

  pub goes_up : (ss : List (Stack F)) (n low high next middle : ℕ) (t : Stack F) → Rises 0 (links (rows ss)) next → IsSearched ss n low high → slice_get ss middle ≡ Some t → t.strand < n → IsSearched ss n (middle + 1) high
  goes_up ss n low high next middle t l s e h =
      record {
        in_range = s.in_range;
        lower = λ k u b f. elim (cases_lt k middle) [
          | inl c ↦ (let m = rises (rows ss) 0 next l k middle (row_of u) (row_of t) c (at_rows ss k u f) (at_rows ss middle t e) in omega arith)
          | inr c ↦ (let same : k ≡ middle = omega arith in
              subst (λ (v : Stack F). v.strand < n) (same_Some t u (sym e ∙ (ap (slice_get ss) (sym same) ∙ f))) h)
        ];
        higher = s.higher;
      }

  pub goes_down : (ss : List (Stack F)) (n low high next middle : ℕ) (t : Stack F) → Rises 0 (links (rows ss)) next → IsSearched ss n low high → slice_get ss middle ≡ Some t → n < t.strand → IsSearched ss n low middle
  goes_down ss n low high next middle t l s e h =
      record {
        in_range = (let w = slice_get_within ss middle t e in omega arith);
        lower = s.lower;
        higher = λ k u b f. elim (cases_lt middle k) [
          | inl c ↦ (let m = rises (rows ss) 0 next l middle k (row_of t) (row_of u) c (at_rows ss middle t e) (at_rows ss k u f) in omega arith)
          | inr c ↦ (let same : k ≡ middle = omega arith in
              subst (λ (v : Stack F). n < v.strand) (same_Some t u (sym e ∙ (ap (slice_get ss) (sym same) ∙ f))) h)
        ];
      }

  pub not_there : (ss : List (Stack F)) (n low high : ℕ) → IsSearched ss n low high → high ≤ low → Lacks (rows ss) n
  not_there ss n low high s l j r e =
      let found = from_rows ss j r e in
      let number = ap (λ (q : Row F). q.number) found.2 in
      λ same. elim (cases_lt j low) [
        | inl c ↦ (let m = s.lower j found.0 c found.1 in absurd (omega arith))
        | inr c ↦ (let m = s.higher j found.0 (omega arith) found.1 in absurd (omega arith))
      ]
