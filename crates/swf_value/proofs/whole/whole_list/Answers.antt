use Rattle.std.proofs.Common.{◌≡◌, ◌∙◌, ap, sym, subst, [], ◌∷◌, ◌++◌, length, Some, arith}
use Rattle.std.proofs.lemmas.List.{nil_from_length}
use Rattle.std.specs.Vec.Iter.{into_iter_items}
use Rattle.swf_value.specs.Value.{IsValue}
use Rattle.swf_value.proofs.Wholes.{ListLeft, list_turn, list_stop, list_end}
use Rattle.swf_value.proofs.whole.whole_list.Goals as goal

pub returns-in_default : goal.returns-in_default
returns-in_default c = λ ds h.
    let left = into_iter_items c.next.new.self in
    let now = subst (ListLeft ds c.loop-item.values.items) c.in-Some.ensures.steps.0 (c.loop-item.invariant.0 ds h) in
    (sym (list_stop ds c.loop-item.values.items c.in-Some.item left c.in_default.is now), tt)

pub loop-item-preserved : goal.loop-item-preserved
loop-item-preserved c =
    let done = c.loop-item.values.items in
    let v = c.in-Some-value.value in
    let left = into_iter_items c.next.new.self in
    let step = c.in-Some.ensures.steps in
    let pushed : c.push.new.self.items ≡ done ++ v ∷ [] = c.in_ok-push.ensures.items ∙ ap (λ x. done ++ x ∷ []) c.in-Some-value.value-is in (
      λ ds h.
          let now = subst (ListLeft ds done) step.0 (c.loop-item.invariant.0 ds h) in
          subst (λ vs. ListLeft ds vs left) (sym pushed) (list_turn ds done c.in-Some.item left v c.in-Some-value.is now),
      omega (arith, step.1, c.loop-item.invariant.1, ap length step.0),
    )

pub returns : goal.returns
returns c = λ ds h.
    let none : into_iter_items c.loop-item.item-iterator ≡ [] = nil_from_length _ (omega (arith, c.loop-item.invariant.1, c.in-None.ensures.steps.0)) in
    let all = list_end ds c.loop-item.values.items (subst (ListLeft ds c.loop-item.values.items) none (c.loop-item.invariant.0 ds h)) in
    (ap Some c.in_ok-list.ensures ∙ sym all.0, subst IsValue (sym c.in_ok-list.ensures) all.1)
