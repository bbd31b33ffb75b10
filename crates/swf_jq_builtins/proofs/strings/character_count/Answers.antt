use Rattle.std.proofs.Common.{rules, sym}
use Rattle.std.proofs.lemmas.Str.{chars_from_encodes}
use Rattle.swf_jq_builtins.proofs.strings.character_count.Goals as goal

pub returns : goal.returns
returns c = rw (sym c.as_str.ensures.chars) (search (rules, chars_from_encodes))
