-- The text of a value is what `serde_json` writes for its data.
use Rattle.std.proofs.Common.{◌≡◌, ◌∙◌, ap, ap₂, sym, refl, ℕ, zero, suc, ◌<◌, pos, negsuc, List, [], ◌∷◌, ◌++◌, Bool, true, false, ◌&&◌, bytes_eq, inl, inr, flat_map, append_assoc, le-ltb, arith}
use Rattle.std.proofs.lemmas.Bool.{and_parts, cases_eq, cases_lt}
use Rattle.std.proofs.lemmas.Slice.Eq.{bytes_eq-Decides}
use Rattle.std.specs.Str.{encode_utf8_all}
use Rattle.std.specs.Char.{encode_utf8}
use Rattle.json.specs.Print as print
use Rattle.json.proofs.Printed.Strings.{escape_byte_plain}
use Rattle.serde_json.specs.Written.{compact_text, items_text, members_text}
use Rattle.swf_value.specs.Value.{Value, null, boolean, int, text, list, object, Items, no_items, item, Members, no_members, member}
use Rattle.swf_value.specs.Written.{escaped_byte, quoted, comma, written, written_items, written_members}
use Rattle.swf_value.proofs.Data.{data_of, items_data, members_data}
use Rattle.swf_value.proofs.Escapes.{escaped_text}

-- ---- one byte

abbrev alike_below : ℕ → Bool
alike_below zero = true
alike_below (suc n) = bytes_eq (escaped_byte n) (print.escape_byte n) && alike_below n

alike : (n : ℕ) → alike_below n ≡ true → (x : ℕ) → x < n → escaped_byte x ≡ print.escape_byte x
alike zero e x h = absurd (omega arith)
alike (suc n) e x h =
    let p = and_parts _ _ e in
    elim (cases_eq x n) [
      | inl same ↦ rw same ((bytes_eq-Decides (escaped_byte n) (print.escape_byte n)).0 p.0)
      | inr other ↦ alike n p.1 x (omega arith)
    ]

all_alike : alike_below 128 ≡ true
unfolding print.escape_byte encode_utf8
all_alike = refl

same_escape : (x : ℕ) → escaped_byte x ≡ print.escape_byte x
same_escape x = elim (cases_lt x 128) [
  | inl low ↦ alike 128 all_alike x low
  | inr high ↦ rw (le-ltb x 128 high) (sym (escape_byte_plain x (λ e. omega arith) (λ e. omega arith) (omega arith)))
]

same_escapes : (xs : List ℕ) → flat_map escaped_byte xs ≡ print.escape xs
same_escapes [] = refl
same_escapes (x ∷ xs) = ap₂ (λ (a b : List ℕ). a ++ b) (same_escape x) (same_escapes xs)

pub quoted_is : (t : List ℕ) → quoted t ≡ print.quoted (encode_utf8_all t)
quoted_is t = ap (λ s. 34 ∷ (s ++ 34 ∷ [])) (sym (escaped_text t) ∙ same_escapes (encode_utf8_all t))

-- ---- values

mutual
  pub written_is : (v : Value) → written v ≡ compact_text (data_of v)
  written_is null = refl
  written_is (boolean true) = refl
  written_is (boolean false) = refl
  written_is (int (pos n)) = refl
  written_is (int (negsuc n)) = refl
  written_is (text t) = quoted_is t
  written_is (list ds) = ap (λ s. 91 ∷ s) (written_items_is false ds)
  written_is (object ms) = ap (λ s. 123 ∷ s) (written_members_is false ms)

  written_items_is : (later : Bool) (ds : Items) → written_items later ds ++ 93 ∷ [] ≡ items_text later (items_data ds)
  written_items_is later no_items = refl
  written_items_is later (item d ds) =
      append_assoc (comma later) (written d ++ written_items true ds) (93 ∷ [])
      ∙ ap (λ s. comma later ++ s) (append_assoc (written d) (written_items true ds) (93 ∷ []) ∙ ap₂ (λ (a b : List ℕ). a ++ b) (written_is d) (written_items_is true ds))

  written_members_is : (later : Bool) (ms : Members) → written_members later ms ++ 125 ∷ [] ≡ members_text later (members_data ms)
  written_members_is later no_members = refl
  written_members_is later (member k d ms) =
      append_assoc (comma later) (quoted k ++ 58 ∷ (written d ++ written_members true ms)) (125 ∷ [])
      ∙ ap (λ s. comma later ++ s) (
      append_assoc (quoted k) (58 ∷ (written d ++ written_members true ms)) (125 ∷ [])
      ∙ ap₂ (λ (a b : List ℕ). a ++ 58 ∷ b) (quoted_is k) (append_assoc (written d) (written_members true ms) (125 ∷ []) ∙ ap₂ (λ (a b : List ℕ). a ++ b) (written_is d) (written_members_is true ms))
      )
