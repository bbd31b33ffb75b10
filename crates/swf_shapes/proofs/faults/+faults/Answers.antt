use Rattle.std.proofs.Common.{◌≡◌, ◌∙◌, ◌∷◌, ◌++◌, ◌+◌, ap, sym, List, [], ℕ, drop, append-nil, arith}
use Rattle.std.proofs.lemmas.List.{drop_all}
use Rattle.swf_value.proofs.Writing.{first_of_rest}
use Rattle.swf_value.specs.Node.{items_of, members_of, weight_items, weight_members}
use Rattle.swf_value.specs.Value.{Value}
use Rattle.swf_value.specs.declared.value.Member.{Member}
use Rattle.swf_shapes.specs.Faults.{faults_in, item_faults, member_faults}
use Rattle.swf_shapes.proofs.FaultLemmas.{item_step, member_step}
use Rattle.swf_shapes.proofs.faults.+faults.Goals as goal

pub push_item_faults-loop-index-preserved : goal.push_item_faults-loop-index-preserved
push_item_faults-loop-index-preserved t c =
    let ds = c.args.items.now in
    let i = c.loop-index.index in
    let d = c.index-items-index.result in
    let p = c.args.place.now in
    let first : drop i ds ≡ d ∷ drop (i + 1) ds = first_of_rest ds i d c.loop-index-test.true c.index-items-index.is in
    record {
      faults = item_step c.args.inside c.args.shape p c.in_ok-place.place ds i d c.loop-index.faults _ _ first (c.in_ok-place.ensures ∙ ap (λ (x : List ℕ). p ++ x ∷ []) c.in_ok-position.ensures) c.in_ok-push_faults.ensures c.loop-index.invariant.faults;
      weigh = omega (arith, c.loop-index.invariant.weigh, ap (λ (l : List Value). weight_items (items_of l)) first);
    }

pub push_item_faults-returns : goal.push_item_faults-returns
push_item_faults-returns t c =
    let fs = c.loop-index.faults in
    let i = c.loop-index.index in
    sym (c.loop-index.invariant.faults ∙ ap (λ (l : List Value). fs ++ item_faults c.args.inside c.args.shape c.args.place.now i (items_of l)) (drop_all i c.args.items.now c.loop-index-test.false) ∙ append-nil fs)

pub push_member_faults-loop-member-preserved : goal.push_member_faults-loop-member-preserved
push_member_faults-loop-member-preserved t c =
    let ms = c.args.members.now in
    let i = c.loop-member.member-index in
    let m = c.member-item.result in
    let p = c.args.place.now in
    let first : drop i ms ≡ m ∷ drop (i + 1) ms = first_of_rest ms i m c.loop-member-test.true c.member-item.is in
    record {
      faults = member_step c.args.layout.now p c.in_ok-place.place ms i m c.loop-member.faults _ _ first (c.in_ok-place.ensures ∙ ap (λ (x : List ℕ). p ++ x ∷ []) c.in_ok-copy.ensures)
          (c.in_ok-push_faults.ensures ∙ ap (λ s. c.loop-member.faults ++ faults_in c.args.layout.now.inside s c.in_ok-place.place m.value) c.shape_at-shape.ensures) c.loop-member.invariant.faults;
      weigh = omega (arith, c.loop-member.invariant.weigh, ap (λ (l : List Member). weight_members (members_of l)) first);
    }

pub push_member_faults-returns : goal.push_member_faults-returns
push_member_faults-returns t c =
    let fs = c.loop-member.faults in
    let i = c.loop-member.member-index in
    sym (c.loop-member.invariant.faults ∙ ap (λ (l : List Member). fs ++ member_faults c.args.layout.now c.args.place.now (members_of l)) (drop_all i c.args.members.now c.loop-member-test.false) ∙ append-nil fs)
