-- Which bytes the set of reserved ones has, and what a text becomes by it.
use Rattle.std.proofs.Common.{◌≡◌, ◌∙◌, ℕ, zero, suc, ◌<◌, ◌≤◌, ◌/◌, ◌%◌, Bool, true, false, not, ◌&&◌, List, [], ◌∷◌, ◌++◌, chars, flat_map, get_or, if◌then◌else◌, ap, sym, refl, ⊎_elim, arith}
use Rattle.std.specs.Char.{is_ascii}
use Rattle.std.specs.Str.{IsUtf8}
use Rattle.std.proofs.lemmas.Bool.{and_parts, cases_eq, cases_lt}
use Rattle.std.proofs.lemmas.Bool.Decides.{nat_tests}
use Rattle.std.proofs.lemmas.Str.{chars-IsAscii, encodes-chars}
use Rattle.percent_encoding.specs.AsciiSet.{contains, should_percent_encode}
use Rattle.percent_encoding.specs.Percent.{percent_encode_byte, encode_byte, percent_encode}
use Rattle.percent_encoding.proofs.PercentLemmas.{IsAscii-percent_encode}
use Rattle.swf_transform.specs.declared.escapes.TheConstants.{RESERVED}
use Rattle.swf_templates.specs.Uris.{is_unreserved, upper_digit, escaped_byte, escaped}

-- each number below this one passes the test
abbrev all_below : (ℕ → Bool) → ℕ → Bool
all_below test zero = true
all_below test (suc n) = test n && all_below test n

checked : (test : ℕ → Bool) (n : ℕ) → all_below test n ≡ true → (k : ℕ) → k < n → test k ≡ true
checked test zero all k below = absurd (omega arith)
checked test (suc n) all k below =
    ⊎_elim (λ last. rw last (and_parts _ _ all).0) (λ other. checked test n (and_parts _ _ all).1 k (omega arith)) (cases_eq k n)

-- the set has the byte exactly where that does not stand for itself
abbrev is_parted : ℕ → Bool
is_parted b = if is_unreserved b then not (contains RESERVED b) else contains RESERVED b

parted : (u r : Bool) → (if u then not r else r) ≡ true → r ≡ not u
parted true true e = sym e
parted true false e = refl
parted false true e = refl
parted false false e = e

contains-RESERVED : (b : ℕ) → b < 128 → contains RESERVED b ≡ not (is_unreserved b)
contains-RESERVED b ascii = parted (is_unreserved b) (contains RESERVED b) (checked is_parted 128 refl b ascii)

-- a byte above ASCII does not stand for itself
unreserved_ascii : (b : ℕ) → 128 ≤ b → is_unreserved b ≡ false
unreserved_ascii b above = grind (arith, nat_tests)

escapes_below : (b : ℕ) → b < 128 → should_percent_encode RESERVED b ≡ not (is_unreserved b)
unfolding should_percent_encode
escapes_below b ascii = let test : is_ascii b ≡ true = grind (arith, nat_tests) in rw test (contains-RESERVED b ascii)

escapes_above : (b : ℕ) → 128 ≤ b → should_percent_encode RESERVED b ≡ not (is_unreserved b)
unfolding should_percent_encode
escapes_above b above = let test : is_ascii b ≡ false = grind (arith, nat_tests) in rw (test, unreserved_ascii b above) refl

-- the two digits of a byte
percent_encode_byte-is : (b : ℕ) → b < 256 → percent_encode_byte b ≡ 37 ∷ upper_digit (b / 16) ∷ upper_digit (b % 16) ∷ []
unfolding percent_encode_byte
percent_encode_byte-is b small = let high : b / 16 % 16 ≡ b / 16 = omega arith in rw high refl

chosen : (b : ℕ) (s u : Bool) → s ≡ not u → percent_encode_byte b ≡ 37 ∷ upper_digit (b / 16) ∷ upper_digit (b % 16) ∷ [] → (if s then percent_encode_byte b else b ∷ []) ≡ (if u then b ∷ [] else 37 ∷ upper_digit (b / 16) ∷ upper_digit (b % 16) ∷ [])
chosen b s true e f = rw e refl
chosen b s false e f = rw e f

encode_byte-is : (b : ℕ) → b < 256 → encode_byte RESERVED b ≡ escaped_byte b
encode_byte-is b small =
    let test : should_percent_encode RESERVED b ≡ not (is_unreserved b) = ⊎_elim (λ low. escapes_below b low) (λ high. escapes_above b high) (cases_lt b 128) in
    chosen b (should_percent_encode RESERVED b) (is_unreserved b) test (percent_encode_byte-is b small)

percent_encode-is : (bs : List ℕ) → ((i : ℕ) → get_or bs i 0 < 256) → percent_encode RESERVED bs ≡ flat_map escaped_byte bs
unfolding percent_encode
percent_encode-is [] small = refl
percent_encode-is (b ∷ bs) small = rw (encode_byte-is b (small 0)) (ap (λ (x : List ℕ). escaped_byte b ++ x) (percent_encode-is bs (λ i. small (suc i))))

-- a text with its escapes, from the bytes of its UTF-8
pub chars-percent_encode : (bs : List ℕ) → IsUtf8 bs → ((i : ℕ) → get_or bs i 0 < 256) → chars (percent_encode RESERVED bs) ≡ escaped (chars bs)
chars-percent_encode bs utf8 small =
    chars-IsAscii (percent_encode RESERVED bs) (IsAscii-percent_encode RESERVED bs) ∙ percent_encode-is bs small ∙ ap (flat_map escaped_byte) (sym (encodes-chars bs utf8))
