-- Texts put together.
use Rattle.std.proofs.Common.{◌≡◌, ◌∙◌, ℕ, ◌+◌, ◌≤◌, List, ◌++◌, length, ap, arith}
use Rattle.std.specs.Str.{encode_utf8_all}
use Rattle.std.proofs.lemmas.Str.{encodes-append}
use Rattle.std.proofs.lemmas.List.{length-append}
use Rattle.swf_value.specs.Node.{items_of}
use Rattle.swf_text.specs.Size.{bytes_in}
use Rattle.swf_value.specs.Value.{Value, text, list}
use Rattle.swf_evaluation.specs.Builtins.{join, joined_or_not, pieces_of}
use Rattle.swf_jq_builtins.proofs.Lists.{values_of_items_of}

pub join_is : (vs : List Value) (s : List ℕ) → join (list (items_of vs)) (text s) ≡ joined_or_not s (pieces_of vs)
join_is vs s = ap (λ ws. joined_or_not s (pieces_of ws)) (values_of_items_of vs)

-- a text takes no less than what it begins with
pub bytes_front : (a b c : List ℕ) → a ++ b ≡ c → bytes_in a ≤ bytes_in c
bytes_front a b c e =
    let whole : bytes_in (a ++ b) ≡ bytes_in a + bytes_in b = ap length (encodes-append a b) ∙ length-append (encode_utf8_all a) (encode_utf8_all b) in
    omega (arith, whole, ap bytes_in e)
