-- Which events are told from a number on, and that one more is.
use Rattle.std.proofs.Common.{◌≡◌, ◌∙◌, ap, sym, ℕ, ◌+◌, ◌-◌, ◌<◌, ◌≤◌, ◌⊎◌, inl, inr, min, nat_le, length, drop, arith, length-drop, List, [], ◌∷◌, ◌++◌, append_assoc, get_or, map, take}
use Rattle.std.proofs.lemmas.Bool.{cases_Bool, leb-true, leb-false}
use Rattle.std.proofs.lemmas.List.{drop_all, take_all}
use Rattle.swf_value.proofs.Writing.{first_of_rest}
use Rattle.swf_meaning.specs.Printed.{most_told}

-- the events from one number to another are those that are told
take_alike : {A : Type 0} (xs : List A) (n m : ℕ) → (n ≡ m) ⊎ ((length xs ≤ n) × (length xs ≤ m)) → take n xs ≡ take m xs
take_alike xs n m (inl e) = ap (λ k. take k xs) e
take_alike xs n m (inr p) = take_all n xs p.0 ∙ sym (take_all m xs p.1)

pub told_is : {A : Type 0} (xs : List A) (from first end : ℕ) → first ≡ min (length xs) from → end ≡ min (length xs) (first + most_told) → take (end - first) (drop first xs) ≡ take most_told (drop from xs)
told_is xs from first end p q = elim (cases_Bool (nat_le from (length xs))) [
  | inl t ↦
      let same : first ≡ from = omega (arith, p, leb-true from (length xs) t) in
      ap (λ ys. take (end - first) ys) (ap (λ n. drop n xs) same)
      ∙ elim (cases_Bool (nat_le (from + most_told) (length xs))) [
        | inl u ↦ take_alike (drop from xs) (end - first) most_told (inl (omega (arith, q, same, leb-true (from + most_told) (length xs) u)))
        | inr u ↦ take_alike (drop from xs) (end - first) most_told
            (inr (omega (arith, q, same, leb-false (from + most_told) (length xs) u, length-drop from xs), omega (arith, leb-false (from + most_told) (length xs) u, length-drop from xs)))
      ]
  | inr t ↦
      let past = leb-false from (length xs) t in
      ap (λ ys. take (end - first) ys) (drop_all first xs (omega (arith, p, past)) ∙ sym (drop_all from xs (omega (arith, past))))
      ∙ take_alike (drop from xs) (end - first) most_told (inr (omega (arith, past, length-drop from xs), omega (arith, past, length-drop from xs)))
]

-- one more is told, and the rest is told behind it
pub one_more : {A B : Type 0} (f : A → B) (xs : List A) (i : ℕ) (x : A) (old new whole : List B) → i < length xs → x ≡ get_or xs i x → new ≡ old ++ f x ∷ [] → old ++ map f (drop i xs) ≡ whole → new ++ map f (drop (i + 1) xs) ≡ whole
one_more f xs i x old new whole within is more told =
    ap (λ ys. ys ++ map f (drop (i + 1) xs)) more ∙ append_assoc old (f x ∷ []) (map f (drop (i + 1) xs)) ∙ ap (λ ys. old ++ map f ys) (sym (first_of_rest xs i x within is)) ∙ told
