-- The units of a text's escapes.
use Rattle.std.proofs.Common.{◌≡◌, refl, ◌<◌, ◌≤◌, ℕ, List, [], ◌∷◌, length, get_or, drop, false, true, Some, arith}
use Rattle.std.proofs.lemmas.Bool.Decides.{nat_tests}
use Rattle.std.specs.Char.{InScalarRange}
use Rattle.json.specs.Text.{code_unit, is_high_surrogate, is_low_surrogate, surrogate_pair, plain, after_u, after_high}
use Rattle.swf_jq_tokens.specs.Piece.{piece, grown}

-- four characters and what stands after them
pub four : (cs : List ℕ) (a b c d : ℕ) → 4 ≤ length cs → a ≡ get_or cs 0 a → b ≡ get_or cs 1 b → c ≡ get_or cs 2 c → d ≡ get_or cs 3 d → cs ≡ a ∷ b ∷ c ∷ d ∷ drop 4 cs
four (x ∷ y ∷ z ∷ w ∷ cs) a b c d h ea eb ec ed = cc
four (x ∷ y ∷ z ∷ []) a b c d h ea eb ec ed = absurd (omega arith)
four (x ∷ y ∷ []) a b c d h ea eb ec ed = absurd (omega arith)
four (x ∷ []) a b c d h ea eb ec ed = absurd (omega arith)
four [] a b c d h ea eb ec ed = absurd (omega arith)

-- a `\u`, four characters, and what stands after them
pub six : (cs : List ℕ) (a b c d : ℕ) → 6 ≤ length cs → 92 ≡ get_or cs 0 92 → 117 ≡ get_or cs 1 117 → a ≡ get_or cs 2 a → b ≡ get_or cs 3 b → c ≡ get_or cs 4 c → d ≡ get_or cs 5 d
    → cs ≡ 92 ∷ 117 ∷ a ∷ b ∷ c ∷ d ∷ drop 6 cs
six (x ∷ y ∷ cs) a b c d h es eu ea eb ec ed = let e : cs ≡ a ∷ b ∷ c ∷ d ∷ drop 4 cs = four cs a b c d (omega arith) ea eb ec ed in cc
six (x ∷ []) a b c d h es eu ea eb ec ed = absurd (omega arith)
six [] a b c d h es eu ea eb ec ed = absurd (omega arith)

not_high : (u : ℕ) → InScalarRange u → is_high_surrogate u ≡ false
not_high u h = grind (arith, nat_tests)

not_low : (u : ℕ) → InScalarRange u → is_low_surrogate u ≡ false
not_low u h = grind (arith, nat_tests)

-- a unit that is a character
pub one_unit : (a b c d u : ℕ) (cs : List ℕ) → Some u ≡ code_unit a b c d → InScalarRange u → piece after_u (a ∷ b ∷ c ∷ d ∷ cs) ≡ grown (u ∷ []) 6 (piece plain cs)
unfolding piece
one_unit a b c d u cs e s = rw (← e, not_high u s, not_low u s) refl

-- the first unit of two
pub high_unit : (a b c d u : ℕ) (cs : List ℕ) → Some u ≡ code_unit a b c d → 0xd800 ≤ u → u < 0xdc00 → piece after_u (a ∷ b ∷ c ∷ d ∷ cs) ≡ piece (after_high u) cs
unfolding piece
high_unit a b c d u cs e l h =
    let t : is_high_surrogate u ≡ true = grind (arith, nat_tests) in
    rw (← e, t) refl

-- the second
pub low_unit : (h a b c d u : ℕ) (cs : List ℕ) → Some u ≡ code_unit a b c d → 0xdc00 ≤ u → u < 0xe000
    → piece (after_high h) (92 ∷ 117 ∷ a ∷ b ∷ c ∷ d ∷ cs) ≡ grown (surrogate_pair h u ∷ []) 12 (piece plain cs)
unfolding piece
low_unit h a b c d u cs e l g =
    let t : is_low_surrogate u ≡ true = grind (arith, nat_tests) in
    rw (← e, t) refl
