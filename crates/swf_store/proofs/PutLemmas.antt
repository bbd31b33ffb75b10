-- What a write makes of a list of bytes, and what it may leave.
use Rattle.std.proofs.Common.{◌≡◌, ℕ, zero, suc, ◌+◌, ◌-◌, ◌≤◌, List, [], ◌∷◌, ◌++◌, length, take, drop, replicate, refl, sym, ◌∙◌, ap, arith}
use Rattle.std.proofs.lemmas.List.{append-nil, drop_all, take-replicate, length-replicate}
use Rattle.swf_store.specs.Put.{put}

pub take_append : (n : ℕ) (xs ys : List ℕ) → take n (xs ++ ys) ≡ take n xs ++ take (n - length xs) ys
take_append zero [] ys = refl
take_append (suc n) [] ys = let same : suc n - 0 ≡ suc n = omega arith in ap (λ k. take k ys) (sym same)
take_append zero (x ∷ xs) ys =
    let none : 0 - length (x ∷ xs) ≡ 0 = omega arith in
    ap (λ k. take k ys) (sym none)
take_append (suc n) (x ∷ xs) ys =
    let same : suc n - length (x ∷ xs) ≡ n - length xs = omega arith in
    ap (λ (l : List ℕ). x ∷ l) (take_append n xs ys) ∙ ap (λ k. x ∷ (take n xs ++ take k ys)) (sym same)

pub drop_append : (n : ℕ) (xs ys : List ℕ) → drop n (xs ++ ys) ≡ drop n xs ++ drop (n - length xs) ys
drop_append zero [] ys = refl
drop_append (suc n) [] ys = let same : suc n - 0 ≡ suc n = omega arith in ap (λ k. drop k ys) (sym same)
drop_append zero (x ∷ xs) ys =
    let none : 0 - length (x ∷ xs) ≡ 0 = omega arith in
    ap (λ k. (x ∷ xs) ++ drop k ys) (sym none)
drop_append (suc n) (x ∷ xs) ys =
    let same : suc n - length (x ∷ xs) ≡ n - length xs = omega arith in
    drop_append n xs ys ∙ ap (λ k. drop n xs ++ drop k ys) (sym same)

-- writing over a list that was made long enough with zeros
pub put_widened : (old piece : List ℕ) (at end : ℕ) → at + length piece ≡ end → (wide : List ℕ) → wide ≡ old ++ replicate (end - length old) 0 → take at wide ++ piece ++ drop (at + length piece) wide ≡ put old at piece
put_widened old piece at end ends wide is =
    let grown = end - length old in
    let zeros : List ℕ = replicate grown 0 in
    let few : at - length old ≤ grown = omega arith in
    let size : length zeros ≡ grown = length-replicate grown 0 in
    let front : take at wide ≡ take at old ++ replicate (at - length old) 0 =
    ap (λ (l : List ℕ). take at l) is ∙ take_append at old zeros
    ∙ ap (λ (l : List ℕ). take at old ++ l) (take-replicate (at - length old) grown 0 few) in
    let back : drop (at + length piece) wide ≡ drop (at + length piece) old =
    ap (λ (l : List ℕ). drop (at + length piece) l) is ∙ drop_append (at + length piece) old zeros
    ∙ ap (λ (l : List ℕ). drop (at + length piece) old ++ l) (drop_all (at + length piece - length old) zeros (omega (arith, size, ends)))
    ∙ append-nil (drop (at + length piece) old) in
    ap (λ (l : List ℕ). l ++ piece ++ drop (at + length piece) wide) front
    ∙ ap (λ (l : List ℕ). take at old ++ replicate (at - length old) 0 ++ piece ++ l) back
