-- A literal's text, in characters.
use Rattle.std.proofs.Common.{append-nil, ◌≡◌, ◌∙◌, ap, ap₂, sym, refl, ℕ, ◌<◌, List, [], ◌∷◌, ◌++◌, true, false, chars, codes, flat_map, inl, inr, append_assoc, lt-ltb, le-ltb, arith}
use Rattle.std.proofs.lemmas.Bool.{cases_lt, agree_below_at}
use Rattle.std.proofs.lemmas.Fmt.{IsAscii-signed}
use Rattle.std.proofs.lemmas.Str.{chars-IsAscii, chars_from_encodes, encodes-append}
use Rattle.std.specs.Char.{encode_utf8}
use Rattle.std.specs.Str.{encode_utf8_all}
use lib.Utf8.{encode}
use Rattle.swf_expr.specs.Expr.{is_literal}
use Rattle.swf_value.specs.Value.{Value, null, boolean, int, text, IsValue}
use Rattle.swf_value.specs.Written.{escaped, escaped_byte, quoted, written}
use Rattle.swf_value.proofs.Data.{mag-in_range}
use Rattle.swf_value.proofs.Escapes.{escaped_high}
use Rattle.swf_value.proofs.ReadsBack.{IsUtf8-written}
use Rattle.swf_text.specs.Same.{same}
use Rattle.swf_text.proofs.SameLemmas.{chars_ascii, same_true}
use Rattle.swf_jq_print.specs.Print.{quoted_text, literal_text}

escape_low : (c : ℕ) → c < 128 → same (encode_utf8_all (escaped c)) (escaped c) ≡ true
unfolding encode
escape_low c h = agree_below_at (λ x. same (encode_utf8_all (escaped x)) (escaped x)) (λ x. true) 128 c refl h

-- a character's escape in UTF-8
escape_encodes : (c : ℕ) → encode_utf8_all (escaped_byte c) ≡ escaped c
escape_encodes c = elim (cases_lt c 128) [
  | inl low ↦ rw (lt-ltb c 128 low) (same_true (encode_utf8_all (escaped c)) (escaped c) (escape_low c low))
  | inr high ↦ rw (le-ltb c 128 high) (append-nil (encode_utf8 c) ∙ sym (escaped_high c high))
]

text_encodes : (t : List ℕ) → encode_utf8_all (flat_map escaped_byte t ++ 34 ∷ []) ≡ flat_map escaped t ++ 34 ∷ []
unfolding encode
text_encodes [] = refl
text_encodes (c ∷ t) =
    ap encode_utf8_all (append_assoc (escaped_byte c) (flat_map escaped_byte t) (34 ∷ []))
    ∙ encodes-append (escaped_byte c) (flat_map escaped_byte t ++ 34 ∷ [])
    ∙ ap₂ (λ (a b : List ℕ). a ++ b) (escape_encodes c) (text_encodes t)
    ∙ sym (append_assoc (escaped c) (flat_map escaped t) (34 ∷ []))

quoted_encodes : (t : List ℕ) → encode_utf8_all (quoted_text t) ≡ quoted t
unfolding encode
quoted_encodes t = ap (λ (l : List ℕ). 34 ∷ l) (text_encodes t)

pub literal_written : (v : Value) → is_literal v ≡ true → IsValue v → chars (written v) ≡ literal_text v
literal_written null h k = chars_ascii (codes "null") refl
literal_written (boolean true) h k = chars_ascii (codes "true") refl
literal_written (boolean false) h k = chars_ascii (codes "false") refl
literal_written (int z) h k = chars-IsAscii (written (int z)) (IsAscii-signed z (omega (arith, mag-in_range z k)))
literal_written (text t) h k = sym (chars_from_encodes (quoted_text t) (quoted t) (IsUtf8-written (text t) k) (quoted_encodes t))
literal_written v h k = cc h
