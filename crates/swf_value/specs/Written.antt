-- The compact text of a value: no blanks, ascending names, and the escapes of RFC 8259, section 7, that are shortest.
use Rattle.std.specs.Prelude.{◌≡◌, ◌==◌, ◌/◌, ◌%◌, ℕ, List, [], ◌∷◌, ◌++◌, Bool, true, false, codes, flat_map, nat_lt, if◌then◌else◌, encode_utf8}
use Rattle.std.specs.Fmt.{signed_decimal}
use Rattle.std.specs.Char.{digit_char}
use Rattle.swf_value.specs.Value.{Value, null, boolean, int, text, list, object, Items, no_items, item, Members, no_members, member}

-- what stands in a text for a character
abbrev pub escaped : ℕ → List ℕ
escaped c =
    if c == 34 then 92 ∷ 34 ∷ []
    else (if c == 92 then 92 ∷ 92 ∷ []
    else (if c == 8 then 92 ∷ 98 ∷ []
    else (if c == 12 then 92 ∷ 102 ∷ []
    else (if c == 10 then 92 ∷ 110 ∷ []
    else (if c == 13 then 92 ∷ 114 ∷ []
    else (if c == 9 then 92 ∷ 116 ∷ []
    else (if nat_lt c 32 then 92 ∷ 117 ∷ 48 ∷ 48 ∷ digit_char (c / 16) ∷ digit_char (c % 16) ∷ []
    else encode_utf8 c)))))))

-- what stands in a text for one byte of its UTF-8
abbrev pub escaped_byte : ℕ → List ℕ
escaped_byte b = if nat_lt b 128 then escaped b else b ∷ []

-- a text between its quotation marks
abbrev pub quoted : List ℕ → List ℕ
quoted t = 34 ∷ (flat_map escaped t ++ 34 ∷ [])

-- a comma, where something stands before
abbrev pub comma : Bool → List ℕ
comma later = if later then 44 ∷ [] else []

abbrev mutual
  pub written : Value → List ℕ
  written null = codes "null"
  written (boolean b) = if b then codes "true" else codes "false"
  written (int z) = signed_decimal z
  written (text t) = quoted t
  written (list ds) = 91 ∷ (written_items false ds ++ 93 ∷ [])
  written (object ms) = 123 ∷ (written_members false ms ++ 125 ∷ [])

  pub written_items : Bool → Items → List ℕ
  written_items later no_items = []
  written_items later (item d ds) = comma later ++ (written d ++ written_items true ds)

  pub written_members : Bool → Members → List ℕ
  written_members later no_members = []
  written_members later (member k d ms) = comma later ++ (quoted k ++ 58 ∷ (written d ++ written_members true ms))

-- the second list begins with the first
abbrev pub Extends : List ℕ → List ℕ → Type 0
Extends old new = (more : List ℕ) × (new ≡ old ++ more)
