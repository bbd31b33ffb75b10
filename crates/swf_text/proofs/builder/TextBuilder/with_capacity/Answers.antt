use Rattle.std.proofs.Common.{◌∙◌, ap, chars}
use Rattle.std.proofs.lemmas.Str.{chars-nil}
use Rattle.swf_text.proofs.builder.TextBuilder.with_capacity.Goals as goal

pub returns : goal.returns
returns c = ap chars c.in_ok-text.ensures.bytes ∙ chars-nil
