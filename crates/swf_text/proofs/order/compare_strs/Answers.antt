use Rattle.std.proofs.Common.{◌∙◌, ap₂, sym, chars}
use Rattle.std.proofs.lemmas.Str.{encodes-chars}
use Rattle.std.specs.Ordering.{nat_cmp}
use Rattle.std.specs.Cmp.Lexicographic.{slice_cmp}
use Rattle.swf_text.proofs.Utf8Order.{order-encode_utf8_all}
use Rattle.swf_text.proofs.order.compare_strs.Goals as goal

pub returns : goal.returns
returns c =
    c.cmp.ensures
    ∙ sym (ap₂ (λ a b. slice_cmp nat_cmp a b) (encodes-chars c.args.a.now c.utf8.a) (encodes-chars c.args.b.now c.utf8.b))
    ∙ order-encode_utf8_all (chars c.args.a.now) (chars c.args.b.now)
