-- The two parts of a text round its first space.
use Rattle.std.proofs.Common.{◌≡◌, ◌≢◌, subst, ℕ, ◌<◌, List, ◌∷◌, ◌++◌, length, get_or, Option, Some, None, MatchOption, arith}
use Rattle.std.specs.Borrow.{Bor}
use Rattle.std.proofs.lemmas.Str.Pattern.{IsSplitOnceResult, split_parts}

abbrev pub Parts : List ℕ → Option (Bor (List ℕ) × Bor (List ℕ)) → Type 0
Parts text r = MatchOption r ((i : ℕ) → i < length text → get_or text i 0 ≢ 32)
    (λ p. (text ≡ p.0.now ++ (32 ∷ p.1.now)) × ((i : ℕ) → i < length p.0.now → get_or p.0.now i 0 ≢ 32))

pub parts_found : (text : List ℕ) (r : Option (Bor (List ℕ) × Bor (List ℕ))) (p : Bor (List ℕ) × Bor (List ℕ)) → r ≡ Some p → IsSplitOnceResult 32 text r → Parts text (Some p)
parts_found text r p e h = subst (Parts text) e (split_parts 32 text r h (omega arith))

pub parts_lacking : (text : List ℕ) (r : Option (Bor (List ℕ) × Bor (List ℕ))) → r ≡ None → IsSplitOnceResult 32 text r → Parts text None
parts_lacking text r e h = subst (Parts text) e (split_parts 32 text r h (omega arith))
