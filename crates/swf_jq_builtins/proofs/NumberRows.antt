-- Numbers in a row.
use Rattle.std.proofs.Common.{◌≡◌, ◌∙◌, ◌-◌, ◌++◌, arith, append_assoc, ℕ, ◌+◌, ◌<◌, ℤ, pos, ◌+ℤ◌, zero, suc, List, [], ◌∷◌, length, refl, ap}
use Rattle.swf_value.specs.Value.{Value, int}
use Rattle.swf_evaluation.specs.Builtins.{numbers_from}

pub length_numbers : (z : ℤ) (n : ℕ) → length (numbers_from z n) ≡ n
length_numbers z zero = refl
length_numbers z (suc n) = ap suc (length_numbers (z +ℤ pos 1) n)

-- one more number of the row
pub numbers_next : (vs : List Value) (z : ℤ) (n i : ℕ) → i < n → (vs ++ int z ∷ []) ++ numbers_from (z +ℤ pos 1) (n - (i + 1)) ≡ vs ++ numbers_from z (n - i)
numbers_next vs z n i h =
    append_assoc vs (int z ∷ []) (numbers_from (z +ℤ pos 1) (n - (i + 1)))
    ∙ ap (λ k. vs ++ numbers_from z k) (let e : suc (n - (i + 1)) ≡ n - i = omega arith in e)
