-- Texts and their characters.
use Rattle.std.proofs.Common.{◌≡◌, ◌∙◌, ap, sym, List, ℕ, chars}
use Rattle.std.proofs.lemmas.Str.{encodes-chars}
use Rattle.std.specs.Str.{IsUtf8, encode_utf8_all}

-- texts of the same characters have the same bytes
pub same_bytes : (xs ys : List ℕ) → IsUtf8 xs → IsUtf8 ys → chars xs ≡ chars ys → xs ≡ ys
same_bytes xs ys u v e = sym (encodes-chars xs u) ∙ ap encode_utf8_all e ∙ encodes-chars ys v
