use Rattle.std.proofs.Common.{◌≡◌, ◌∙◌, ap, sym, length, string_bytes}
use Rattle.std.proofs.lemmas.Str.{encodes-chars, IsUtf8-string_bytes}
use Rattle.swf_text.specs.Size.{bytes_in}
use Rattle.swf_text.proofs.builder.TextBuilder.len.Goals as goal

pub returns : goal.returns
returns c =
    let t = c.self.inside.text in
    let e : c.as_str.result.now ≡ string_bytes t = c.as_str.ensures.value in
    ap length (e ∙ sym (encodes-chars (string_bytes t) (IsUtf8-string_bytes t))) ∙ ap bytes_in c.self.view_is
