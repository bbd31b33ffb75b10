use Rattle.std.proofs.Common.{◌≡◌, ◌∙◌, ap, sym, refl, true, true≢false, Ordering, Less, Equal, Greater, is_eq}
use Rattle.swf_value.specs.Order.{value_cmp}
use Rattle.swf_value.proofs.OrderLaws.{order_laws}
use Rattle.swf_value.proofs.value.Json.is.Goals as goal

equal_from : (o : Ordering) → is_eq o ≡ true → o ≡ Equal
equal_from Less e = absurd (true≢false (sym e))
equal_from Equal e = refl
equal_from Greater e = absurd (true≢false (sym e))

pub returns : goal.returns
returns c =
    let v = c.args.self.now in
    let w = c.args.other.now in (
      λ (t : c.is_eq.result ≡ true). order_laws.1 v w (sym c.compare.ensures ∙ equal_from c.compare.result (sym c.is_eq.ensures ∙ t)),
      λ (e : v ≡ w). c.is_eq.ensures ∙ ap is_eq (c.compare.ensures ∙ ap (value_cmp v) (sym e) ∙ order_laws.2 v),
    )
