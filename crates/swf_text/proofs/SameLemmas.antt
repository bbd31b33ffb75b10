-- Texts that are one.
use Rattle.std.proofs.Common.{◌≡◌, ◌∙◌, ap, sym, refl, ℕ, zero, suc, List, [], ◌∷◌, Bool, true, false, ◌&&◌, chars, nat_lt, ◌==◌, arith}
use Rattle.std.specs.Str.{IsAscii}
use Rattle.std.proofs.lemmas.Bool.{eqb-true, ltb-true}
use Rattle.std.proofs.lemmas.Bool.Decides.{Decides-eqb}
use Rattle.std.proofs.lemmas.Str.{chars-IsAscii}
use Rattle.swf_text.specs.Same.{same, is_ascii}

pub both_true : (a b : Bool) → (a && b) ≡ true → (a ≡ true) × (b ≡ true)
both_true true b p = (refl, p)
both_true false b p = cc

-- texts that pass the test are equal
pub same_true : (a b : List ℕ) → same a b ≡ true → a ≡ b
same_true [] [] p = refl
same_true [] (y ∷ ys) p = cc
same_true (x ∷ xs) [] p = cc
same_true (x ∷ xs) (y ∷ ys) p =
    let q = both_true (x == y) (same xs ys) p in
    let h : x ≡ y = eqb-true x y q.0 in
    let t : xs ≡ ys = same_true xs ys q.1 in
    λ i. h i ∷ t i

pub same_refl : (a : List ℕ) → same a a ≡ true
same_refl [] = refl
same_refl (x ∷ xs) = let e : (x == x) ≡ true = (Decides-eqb x x).1 refl in rw e (same_refl xs)

-- a test that decides whether they are equal is the test
pub same_decides : (r : Bool) (a b : List ℕ) → (r ≡ true → a ≡ b) → (a ≡ b → r ≡ true) → r ≡ same a b
same_decides true a b f g = sym (ap (same a) (sym (f refl)) ∙ same_refl a)
same_decides false a b f g = not_same a b (same a b) refl (λ e. cc (g e))
  where
    not_same : (a b : List ℕ) (t : Bool) → same a b ≡ t → (a ≡ b → ⊥) → false ≡ same a b
    not_same a b true p n = absurd (n (same_true a b p))
    not_same a b false p n = sym p

pub all_ascii : (t : List ℕ) → is_ascii t ≡ true → IsAscii t
all_ascii [] p i = omega arith
all_ascii (x ∷ xs) p zero = ltb-true x 128 (both_true (nat_lt x 128) (is_ascii xs) p).0
all_ascii (x ∷ xs) p (suc i) = all_ascii xs (both_true (nat_lt x 128) (is_ascii xs) p).1 i

pub chars_ascii : (t : List ℕ) → is_ascii t ≡ true → chars t ≡ t
chars_ascii t p = chars-IsAscii t (all_ascii t p)
