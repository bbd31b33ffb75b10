use Rattle.std.proofs.Common.{◌∙◌, ap, ◌++◌, chars, string_bytes}
use Rattle.std.proofs.lemmas.Str.{chars-append, IsUtf8-string_bytes}
use Rattle.swf_text.proofs.builder.TextBuilder.push_str.Goals as goal

pub returns : goal.returns
returns c =
    ap chars c.in_ok-push_str.ensures.bytes
    ∙ chars-append (string_bytes c.self.inside.text) c.args.more.now (IsUtf8-string_bytes c.self.inside.text)
    ∙ ap (λ xs. xs ++ chars c.args.more.now) c.self.view_is
