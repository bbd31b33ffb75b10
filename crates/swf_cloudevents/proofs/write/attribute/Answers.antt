use Rattle.std.proofs.Common.{◌≡◌, ◌∙◌, ap, sym, chars, codes, true, false, Some}
use Rattle.swf_text.specs.Same.{same}
use Rattle.swf_value.specs.Value.{text}
use Rattle.swf_cloudevents.proofs.Puts.{at_here, at_past}
use Rattle.swf_cloudevents.proofs.write.attribute.Goals as goal

pub returns-in_ok-word : goal.returns-in_ok-word
returns-in_ok-word c =
    let no_id : same (chars c.args.name.now) (codes "id") ≡ false = sym c.is_named.ensures ∙ c.if-is_named.false in
    let no_source : same (chars c.args.name.now) (codes "source") ≡ false = sym c.is_named-else-is_named.ensures ∙ c.if-is_named-2.false in
    let named : same (chars c.args.name.now) (codes "specversion") ≡ true = sym c.is_named-else-is_named-2.ensures ∙ c.if-is_named-3.true in
    rw (at_past, at_past, at_here) (ap Some (c.text.ensures ∙ ap text c.in_ok-word.ensures))

pub returns-then-is_named-4 : goal.returns-then-is_named-4
returns-then-is_named-4 c =
    let no_id : same (chars c.args.name.now) (codes "id") ≡ false = sym c.is_named.ensures ∙ c.if-is_named.false in
    let no_source : same (chars c.args.name.now) (codes "source") ≡ false = sym c.is_named-else-is_named.ensures ∙ c.if-is_named-2.false in
    let no_version : same (chars c.args.name.now) (codes "specversion") ≡ false = sym c.is_named-else-is_named-2.ensures ∙ c.if-is_named-3.false in
    let named : same (chars c.args.name.now) (codes "type") ≡ true = sym c.is_named-else-is_named-3.ensures ∙ c.if-is_named-4.true in
    rw (at_past, at_past, at_past, at_here) c.text_copy-then-is_named-4.ensures

pub returns-else-is_named-4 : goal.returns-else-is_named-4
returns-else-is_named-4 c =
    let no_id : same (chars c.args.name.now) (codes "id") ≡ false = sym c.is_named.ensures ∙ c.if-is_named.false in
    let no_source : same (chars c.args.name.now) (codes "source") ≡ false = sym c.is_named-else-is_named.ensures ∙ c.if-is_named-2.false in
    let no_version : same (chars c.args.name.now) (codes "specversion") ≡ false = sym c.is_named-else-is_named-2.ensures ∙ c.if-is_named-3.false in
    let no_type : same (chars c.args.name.now) (codes "type") ≡ false = sym c.is_named-else-is_named-3.ensures ∙ c.if-is_named-4.false in
    rw (at_past, at_past, at_past, at_past) c.optional.ensures
