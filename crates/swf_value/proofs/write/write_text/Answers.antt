use Rattle.std.proofs.Common.{◌≡◌, ◌∙◌, ap, arith, flat_map}
use Rattle.std.proofs.lemmas.Grind.{common_steps}
use Rattle.swf_value.specs.Written.{escaped, escaped_byte}
use Rattle.swf_value.proofs.Escapes.{escaped_text}
use Rattle.swf_value.proofs.write.write_text.Goals as goal

pub returns-clause-ok : goal.returns-clause-ok
returns-clause-ok c =
    let spelled : flat_map escaped_byte c.as_bytes.result.now ≡ flat_map escaped c.args.text.now =
    ap (flat_map escaped_byte) (c.as_bytes.ensures.value ∙ c.as_str.ensures.bytes) ∙ escaped_text c.args.text.now in
    grind (arith, common_steps, spelled)
