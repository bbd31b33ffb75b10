-- Which values the order calls equal.
use Rattle.std.proofs.Common.{◌≡◌, ◌↔◌, ◌∙◌, Bool, true, false, IsTrue, ap, sym, refl, true≢false, Ordering, Less, Equal, Greater, is_eq}
use Rattle.swf_value.specs.Value.{Value}
use Rattle.swf_value.specs.Order.{value_cmp}
use Rattle.swf_value.proofs.OrderLaws.{order_laws}
use Rattle.swf_evaluation.specs.Operations.{is_same}

not_equal : (o : Ordering) → (o ≡ Equal → ⊥) → false ≡ is_eq o
not_equal Less h = refl
not_equal Equal h = absurd (h refl)
not_equal Greater h = refl

pub same_by : (b : Bool) (v w : Value) → IsTrue b ↔ (v ≡ w) → b ≡ is_same v w
same_by true v w h = sym (ap is_eq (ap (value_cmp v) (sym (h.0 refl)) ∙ order_laws.2 v))
same_by false v w h = not_equal (value_cmp v w) (λ e. true≢false (sym (h.1 (order_laws.1 v w e))))
