use Rattle.std.proofs.Common.{◌≡◌, ◌∙◌, sym, chars, codes, true, false}
use Rattle.swf_text.specs.Same.{same}
use Rattle.swf_cloudevents.proofs.Puts.{at_here, at_past}
use Rattle.swf_cloudevents.proofs.write.optional.Goals as goal

pub returns-then-is_named-2 : goal.returns-then-is_named-2
returns-then-is_named-2 c =
    let named : same (chars c.args.name.now) (codes "data_base64") ≡ true = sym c.is_named-in-Base64.ensures ∙ c.if-is_named-2.true in
    rw (c.in-Base64.is, at_here) c.text_copy.ensures

pub returns-else-is_named-2 : goal.returns-else-is_named-2
returns-else-is_named-2 c =
    let other : same (chars c.args.name.now) (codes "data_base64") ≡ false = sym c.is_named-in-Base64.ensures ∙ c.if-is_named-2.false in
    rw (c.in-Base64.is, at_past, ← c.find-stored.ensures) c.copied-else-is_named-2.ensures
