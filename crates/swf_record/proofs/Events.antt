-- An event is told as the value that it is written as, and as no other.
use Rattle.std.proofs.Common.{◌≡◌, ◌∙◌, ap, sym, subst, refl, Bool, true, false, cond, Some, None, Result, Ok, Err, option_and_then}
use Rattle.std.specs.Bool.{IsTrue, then_some}
use Rattle.std.specs.Ordering.{is_eq}
use Rattle.std.specs.Prelude.{◌↔◌}
use Rattle.std.specs.Result.{result_ok}
use Rattle.std.specs.declared.cmp.Ordering.{Ordering}
use Rattle.std.specs.declared.cmp.Ordering.TheVariants.{Less, Equal, Greater}
use Rattle.swf_value.specs.Order.{value_cmp}
use Rattle.swf_value.specs.Value.{Value}
use Rattle.swf_cloudevents.specs.declared.event.Event.{Event}
use Rattle.swf_cloudevents.specs.Event.{event_of, event_value}
use Rattle.swf_cloudevents.specs.Faults.{Fault}
use Rattle.swf_record.specs.Decodes.{if_value, told_event}
use Rattle.swf_record.proofs.Fields.{if_some}
use Rattle.swf_value.proofs.OrderLaws.{order_laws}

-- ---- values that compare as equal

only_equal : (o : Ordering) → is_eq o ≡ true → o ≡ Equal
only_equal Less e = cc
only_equal Equal e = refl
only_equal Greater e = cc

one_value : (v w : Value) → is_eq (value_cmp v w) ≡ true → v ≡ w
one_value v w e = order_laws.1 v w (only_equal (value_cmp v w) e)

own_value : (v : Value) → is_eq (value_cmp v v) ≡ true
own_value v = ap is_eq (order_laws.2 v)

-- a test that says whether two values are one finds what their comparison finds
tested : (v w : Value) (found same : Bool) → is_eq (value_cmp v w) ≡ found → (IsTrue same ↔ (v ≡ w)) → found ≡ same
tested v w true true e h = refl
tested v w true false e h = sym (h.1 (one_value v w e))
tested v w false true e h = sym e ∙ subst (λ x. is_eq (value_cmp v x) ≡ true) (h.0 refl) (own_value v)
tested v w false false e h = refl

-- ---- events

where_same : (same : Bool) (e : Event) → then_some same e ≡ cond same (Some e) None
where_same true e = refl
where_same false e = refl

-- an event that was read, where a test says whether it is written as the value that it was read from
pub told_where_same : (v w : Value) (e : Event) (same : Bool) → Some e ≡ result_ok (event_of v) → w ≡ event_value e → (IsTrue same ↔ (w ≡ v)) → then_some same e ≡ told_event v
unfolding told_event
told_where_same v w e same read is h =
    let test : is_eq (value_cmp (event_value e) v) ≡ same = ap (λ x. is_eq (value_cmp x v)) (sym is) ∙ tested w v (is_eq (value_cmp w v)) same refl h in
    rw (sym read, test) (where_same same e)

-- an event that is read from its value is told as it
pub told_again : (e : Event) → event_of (event_value e) ≡ Ok e → told_event (event_value e) ≡ Some e
unfolding told_event
told_again e h = rw (h, own_value (event_value e)) refl

told_from : (v : Value) (r : Result Event Fault) (e : Event) → option_and_then (if_value v) (result_ok r) ≡ Some e → (event_value e ≡ v) × (r ≡ Ok e)
told_from v (Err f) e h = cc
told_from v (Ok d) e h =
    let p = if_some (is_eq (value_cmp (event_value d) v)) d e h in
    (subst (λ e. event_value e ≡ v) p.1 (one_value (event_value d) v p.0), ap Ok p.1)

-- and the event that a value tells is written as it
pub told_is : (v : Value) (e : Event) → told_event v ≡ Some e → (event_value e ≡ v) × (event_of v ≡ Ok e)
unfolding told_event
told_is v e h = told_from v (event_of v) e h
