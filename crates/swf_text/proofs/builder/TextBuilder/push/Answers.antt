use Rattle.std.proofs.Common.{◌∙◌, ap, ap₂, sym, ◌++◌, ◌∷◌, [], chars, string_bytes, encode_utf8, append-nil}
use Rattle.std.proofs.lemmas.Str.{chars-nil, chars-append, chars_past_char, IsUtf8-encode, IsUtf8-string_bytes}
use Rattle.swf_text.proofs.builder.TextBuilder.push.Goals as goal

pub returns : goal.returns
returns c =
    ap chars c.in_ok-push.ensures.bytes
    ∙ chars-append (string_bytes c.self.inside.text) _ (IsUtf8-string_bytes c.self.inside.text)
    ∙ ap₂ (λ xs ys. xs ++ ys) c.self.view_is (chars_past_char (encode_utf8 c.args.character) [] c.args.character (IsUtf8-encode c.args.character c.ranges.character.0) (sym (append-nil (encode_utf8 c.args.character))) ∙ ap (λ t. c.args.character ∷ t) chars-nil)
