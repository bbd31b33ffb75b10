use Rattle.std.proofs.Common.{◌∙◌, ap, chars}
use Rattle.std.proofs.lemmas.Str.{chars-nil}
use Rattle.swf_text.proofs.builder.TextBuilder.new.Goals as goal

pub returns : goal.returns
returns c = ap chars c.new.ensures.bytes ∙ chars-nil
