-- Words and ids as characters and as bytes.
use Rattle.std.proofs.Common.{◌≡◌, ◌≢◌, ◌∙◌, ap, sym, refl, subst, ℕ, ◌<◌, List, [], ◌∷◌, ◌++◌, length, get_or, take, nat_lt, Bool, true, false, not, Option, Some, None, IfSome, MatchOption, chars, encode_utf8, IsUtf8, append-nil, length-append, arith}
use Rattle.std.specs.Borrow.{Bor}
use Rattle.std.specs.List.{All, list_all}
use Rattle.std.specs.Str.{encode_utf8_all, IsAscii}
use Rattle.std.proofs.Math.Seq.{take-append_seam, get_or-append_seam}
use Rattle.std.proofs.lemmas.Bool.{ne_eqb, eq-eqb, eqb-true}
use Rattle.std.proofs.lemmas.Bool.Decides.{nat_tests}
use Rattle.std.proofs.lemmas.List.Elements.{All-from_get_or}
use Rattle.std.proofs.lemmas.List.Folds.{list_all-append}
use Rattle.std.proofs.lemmas.List.Sums.{list_all-from_AllPass, AllPass-from_list_all}
use Rattle.std.proofs.lemmas.Str.{inside_one, encode_ascii, encodes-chars, scalars-chars, chars-IsAscii, encodes-IsAscii, IsUtf8-from_ascii, IsUtf8-take, IsCharBoundary-before_ascii}
use Rattle.std.proofs.lemmas.Str.Pattern.{IsSplitOnceResult, split_parts}
use Rattle.swf_text.proofs.SameLemmas.{both_true, all_ascii}
use Rattle.swf_text.specs.Ascii.{is_digit}
use Rattle.swf_text.specs.Same.{is_ascii}
use Rattle.swf_protocol.specs.Words.{is_space, is_unspaced, is_id_char, is_id}
use Rattle.swf_protocol.specs.Spelled.{IsWord}

-- ---- words

unspaced_one : (c : ℕ) → c ≢ 32 → is_unspaced (encode_utf8 c) ≡ true
unspaced_one c other =
    list_all-from_AllPass (λ b. not (is_space b)) (encode_utf8 c) (All-from_get_or (λ b. not (is_space b) ≡ true) (encode_utf8 c) 0 (λ i lt.
    ap not (ne_eqb (get_or (encode_utf8 c) i 0) 32 (λ e. other (inside_one c [] (encode_utf8 c) i (sym (append-nil (encode_utf8 c))) lt (omega (arith, e)) ∙ e)))))

no_space : (c : ℕ) → not (is_space c) ≡ true → c ≢ 32
no_space c h e = let f : is_space c ≡ true = eq-eqb c 32 e in cc

-- the bytes of a text without a space have none
pub unspaced_bytes : (cs : List ℕ) → is_unspaced cs ≡ true → is_unspaced (encode_utf8_all cs) ≡ true
unspaced_bytes [] h = refl
unspaced_bytes (c ∷ cs) h =
    let p = both_true (not (is_space c)) (is_unspaced cs) h in
    list_all-append (λ b. not (is_space b)) (encode_utf8 c) (encode_utf8_all cs) ∙ rw (unspaced_one c (no_space c p.0)) (unspaced_bytes cs p.1)

other_char : (c : ℕ) (b : Bool) → is_space c ≡ b → is_unspaced (encode_utf8 c) ≡ true → not b ≡ true
other_char c true e h = absurd (spaced (sym h ∙ ap is_unspaced (ap encode_utf8 (eqb-true c 32 e))))
  where
    spaced : true ≡ is_unspaced (encode_utf8 32) → ⊥
    spaced p = cc (p ∙ ap is_unspaced (encode_ascii 32 (omega arith)))
other_char c false e h = refl

-- and a text has none whose bytes have none
pub unspaced_chars : (cs : List ℕ) → is_unspaced (encode_utf8_all cs) ≡ true → is_unspaced cs ≡ true
unspaced_chars [] h = refl
unspaced_chars (c ∷ cs) h =
    let p = both_true (is_unspaced (encode_utf8 c)) (is_unspaced (encode_utf8_all cs)) (sym (list_all-append (λ b. not (is_space b)) (encode_utf8 c) (encode_utf8_all cs)) ∙ h) in
    rw (other_char c (is_space c) refl p.0) (unspaced_chars cs p.1)

pub word_read : (bytes : List ℕ) → IsUtf8 bytes → is_unspaced bytes ≡ true → IsWord (chars bytes)
word_read bytes u h = record {
  scalars = scalars-chars bytes u;
  unspaced = unspaced_chars (chars bytes) (ap is_unspaced (encodes-chars bytes u) ∙ h);
}

unspaced_by : (w : List ℕ) → ((i : ℕ) → i < length w → get_or w i 0 ≢ 32) → is_unspaced w ≡ true
unspaced_by w h = list_all-from_AllPass (λ b. not (is_space b)) w (All-from_get_or (λ b. not (is_space b) ≡ true) w 0 (λ i lt. ap not (ne_eqb (get_or w i 0) 32 (h i lt))))

-- what stands before a space is text
before_space : (text w rest : List ℕ) → IsUtf8 text → text ≡ w ++ (32 ∷ rest) → IsUtf8 w
before_space text w rest u e =
    let here : get_or text (length w) 0 ≡ 32 = ap (λ t. get_or t (length w) 0) e ∙ get_or-append_seam w 32 rest 0 in
    let within : length w < length text = omega (arith, ap length e, length-append w (32 ∷ rest)) in
    subst IsUtf8 (ap (take (length w)) e ∙ take-append_seam w (32 ∷ rest)) (IsUtf8-take text (length w) u (IsCharBoundary-before_ascii text (length w) within (omega (arith, here))))

cut_by : (text : List ℕ) (r : Option (Bor (List ℕ) × Bor (List ℕ))) → IsUtf8 text
    → MatchOption r ((i : ℕ) → i < length text → get_or text i 0 ≢ 32) (λ p. (text ≡ p.0.now ++ (32 ∷ p.1.now)) × ((i : ℕ) → i < length p.0.now → get_or p.0.now i 0 ≢ 32))
    → IfSome r (λ p. IsWord (chars p.0.now))
cut_by text None u h = tt
cut_by text (Some p) u h = word_read p.0.now (before_space text p.0.now p.1.now u h.0) (unspaced_by p.0.now h.1)

-- what is split off at the first space is a word
pub cut_word : (text : List ℕ) (r : Option (Bor (List ℕ) × Bor (List ℕ))) → IsUtf8 text → IsSplitOnceResult 32 text r → IfSome r (λ p. IsWord (chars p.0.now))
cut_word text r u h = cut_by text r u (split_parts 32 text r h (omega arith))

-- ---- words by their test

not_true : (b : Bool) → not b ≡ true → b ≡ false
not_true true h = cc
not_true false h = refl

pub all_unspaced : (w : List ℕ) → is_unspaced w ≡ true → All (λ b. is_space b ≡ false) w
all_unspaced w h k d lt = not_true (is_space (get_or w k d)) (AllPass-from_list_all (λ b. not (is_space b)) w h k d lt)

-- what passes a test that no space does is a word
pub unspaced_where : (p : ℕ → Bool) → ((b : ℕ) → p b ≡ true → not (is_space b) ≡ true) → (w : List ℕ) → list_all p w ≡ true → is_unspaced w ≡ true
unspaced_where p f [] h = refl
unspaced_where p f (b ∷ w) h =
    let q = both_true (p b) (list_all p w) h in
    rw (f b q.0) (unspaced_where p f w q.1)

unspaced_digit : (b : ℕ) → is_digit b ≡ true → not (is_space b) ≡ true
unspaced_digit b h = grind (arith, nat_tests)

pub unspaced_digits : (w : List ℕ) → list_all is_digit w ≡ true → is_unspaced w ≡ true
unspaced_digits w h = unspaced_where is_digit unspaced_digit w h

-- ---- ids

ascii_char : (c : ℕ) → is_id_char c ≡ true → nat_lt c 128 ≡ true
ascii_char c h = grind (arith, nat_tests)

ascii_chars : (t : List ℕ) → list_all is_id_char t ≡ true → is_ascii t ≡ true
ascii_chars [] h = refl
ascii_chars (c ∷ t) h =
    let p = both_true (is_id_char c) (list_all is_id_char t) h in
    rw (ascii_char c p.0) (ascii_chars t p.1)

id_ascii : (t : List ℕ) → is_id t ≡ true → IsAscii t
id_ascii t h = all_ascii t (ascii_chars t (both_true _ (list_all is_id_char t) h).1)

unspaced_id_char : (b : ℕ) → is_id_char b ≡ true → not (is_space b) ≡ true
unspaced_id_char b h = grind (arith, nat_tests)

pub unspaced_id : (t : List ℕ) → is_id t ≡ true → is_unspaced t ≡ true
unspaced_id t h = unspaced_where is_id_char unspaced_id_char t (both_true _ (list_all is_id_char t) h).1

-- an id is spelled by its own characters
pub id_chars : (t : List ℕ) → is_id t ≡ true → chars t ≡ t
id_chars t h = chars-IsAscii t (id_ascii t h)

pub id_bytes : (t : List ℕ) → is_id t ≡ true → encode_utf8_all t ≡ t
id_bytes t h = encodes-IsAscii t (id_ascii t h)

pub id_utf8 : (t : List ℕ) → is_id t ≡ true → IsUtf8 (encode_utf8_all t)
id_utf8 t h = subst IsUtf8 (sym (id_bytes t h)) (IsUtf8-from_ascii t (id_ascii t h))

pub id_read : (id bytes : List ℕ) → id ≡ chars bytes → is_id bytes ≡ true → is_id id ≡ true
id_read id bytes e h = ap is_id (e ∙ id_chars bytes h) ∙ h
