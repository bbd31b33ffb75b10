-- A text is escaped byte by byte as it is character by character.
use Rattle.std.proofs.Common.{◌≡◌, ◌∙◌, ap, ap₂, sym, refl, ℕ, suc, ◌<◌, ◌≤◌, List, [], ◌∷◌, ◌++◌, length, get_or, inl, inr, flat_map, if◌then◌else◌, append-nil, lt-ltb, le-ltb, ne_eqb, arith}
use Rattle.std.proofs.lemmas.Bool.{cases_lt}
use Rattle.std.proofs.lemmas.List.Concat.{flat_map-append}
use Rattle.std.proofs.lemmas.Str.{encode_ascii, inside_one}
use Rattle.std.specs.Str.{encode_utf8_all}
use Rattle.std.specs.Char.{encode_utf8}
use Rattle.swf_value.specs.Written.{escaped, escaped_byte}

-- what stands for a character past ASCII
pub escaped_high : (c : ℕ) → 128 ≤ c → escaped c ≡ encode_utf8 c
escaped_high c h = rw (
  ne_eqb c 34 (λ e. omega arith),
  ne_eqb c 92 (λ e. omega arith),
  ne_eqb c 8 (λ e. omega arith),
  ne_eqb c 12 (λ e. omega arith),
  ne_eqb c 10 (λ e. omega arith),
  ne_eqb c 13 (λ e. omega arith),
  ne_eqb c 9 (λ e. omega arith),
  le-ltb c 32 (omega arith),
) refl

bytes_high : (xs : List ℕ) → ((k : ℕ) → k < length xs → 128 ≤ get_or xs k 0) → flat_map escaped_byte xs ≡ xs
bytes_high [] h = refl
bytes_high (x ∷ xs) h =
    let high : 128 ≤ x = h 0 (omega arith) in
    rw (le-ltb x 128 high) (ap (λ l. x ∷ l) (bytes_high xs (λ k below. h (suc k) (omega arith))))

high_within : (c : ℕ) → 128 ≤ c → (k : ℕ) → k < length (encode_utf8 c) → 128 ≤ get_or (encode_utf8 c) k 0
high_within c h k below = elim (cases_lt (get_or (encode_utf8 c) k 0) 128) [
  | inl low ↦ absurd (omega (arith, inside_one c [] (encode_utf8 c) k (sym (append-nil _)) below low))
  | inr high ↦ high
]

pub escaped_char : (c : ℕ) → flat_map escaped_byte (encode_utf8 c) ≡ escaped c
escaped_char c = elim (cases_lt c 128) [
  | inl low ↦ ap (flat_map escaped_byte) (encode_ascii c low) ∙ append-nil (escaped_byte c) ∙ ap (λ b. if b then escaped c else c ∷ []) (lt-ltb c 128 low)
  | inr high ↦ bytes_high (encode_utf8 c) (high_within c high) ∙ sym (escaped_high c high)
]

pub escaped_text : (cs : List ℕ) → flat_map escaped_byte (encode_utf8_all cs) ≡ flat_map escaped cs
escaped_text [] = refl
escaped_text (c ∷ cs) =
    flat_map-append escaped_byte (encode_utf8 c) (encode_utf8_all cs) ∙ ap₂ (λ (a b : List ℕ). a ++ b) (escaped_char c) (escaped_text cs)
