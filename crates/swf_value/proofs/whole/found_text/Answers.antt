use Rattle.std.proofs.Common.{◌∙◌, ap, subst, sym, Some, arith}
use Rattle.std.proofs.lemmas.Str.{scalars-chars}
use Rattle.swf_value.specs.Value.{IsValue, text}
use Rattle.swf_value.proofs.whole.found_text.Goals as goal

pub returns : goal.returns
returns c =
    let is = c.text.ensures ∙ ap text c.in_ok-text.ensures in
    record { value_is = ap Some is; depth_is = omega arith; valid = subst IsValue (sym is) (scalars-chars c.args.text.now c.utf8.text) }
