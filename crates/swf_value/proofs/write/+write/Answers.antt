use Rattle.std.proofs.Common.{◌≡◌, ◌∷◌, ◌+◌, drop, arith}
use Rattle.swf_value.proofs.Weights.{weight_item, weight_member}
use Rattle.swf_value.proofs.Writing.{first_of_rest, item_written, item_valued, member_written, member_valued, Extends-trans, Extends-more, Extends-same, Extends-if}
use Rattle.swf_value.proofs.write.+write.Goals as goal

pub write_list-write_value-requires : goal.write_list-write_value-requires
write_list-write_value-requires t c =
    (omega (arith, weight_item c.args.items.now c.loop-index.index c.index-items-index.result c.loop-index-test.true c.index-items-index.is), tt)

pub write_object-write_value-requires : goal.write_object-write_value-requires
write_object-write_value-requires t c =
    (omega (arith, weight_member c.args.members.now c.loop-index.index c.index-members-index.result c.loop-index-test.true c.index-members-index.is), tt)

pub write_list-loop-index-preserved : goal.write_list-loop-index-preserved
write_list-loop-index-preserved t c =
    let ds = c.args.items.now in
    let i = c.loop-index.index in
    let d = c.index-items-index.result in
    let first : drop i ds ≡ d ∷ drop (i + 1) ds = first_of_rest ds i d c.loop-index-test.true c.index-items-index.is in (
      item_written ds i d _ _ _ _ first c.in_ok-write_comma.ensures.ok c.in_ok-write_value.ensures.ok c.loop-index.invariant.0,
      λ more. c.loop-index.invariant.1 (item_valued ds i d first c.in_ok-write_value.ensures.value more),
      Extends-trans _ _ _ (Extends-more _ _ _ _ c.loop-index.invariant.2 c.in_ok-write_comma.ensures.ok) c.in_ok-write_value.ensures.kept,
    )

pub write_object-loop-index-preserved : goal.write_object-loop-index-preserved
write_object-loop-index-preserved t c =
    let ms = c.args.members.now in
    let i = c.loop-index.index in
    let m = c.index-members-index.result in
    let first : drop i ms ≡ m ∷ drop (i + 1) ms = first_of_rest ms i m c.loop-index-test.true c.index-members-index.is in (
      member_written ms i m _ _ _ _ _ first c.in_ok-write_comma.ensures.ok c.in_ok-write_name.ensures.ok c.in_ok-write_value.ensures.ok c.loop-index.invariant.0,
      λ more. c.loop-index.invariant.1 (member_valued ms i m first c.in_ok-write_name.ensures.scalars c.in_ok-write_value.ensures.value more),
      Extends-trans _ _ _ (Extends-trans _ _ _ (Extends-more _ _ _ _ c.loop-index.invariant.2 c.in_ok-write_comma.ensures.ok) c.in_ok-write_name.ensures.kept) c.in_ok-write_value.ensures.kept,
    )

pub write_list-returns-in_err-write_comma-clause-kept : goal.write_list-returns-in_err-write_comma-clause-kept
write_list-returns-in_err-write_comma-clause-kept t c =
    Extends-same _ _ _ c.loop-index.invariant.2 c.in_err-write_comma.ensures.err

pub write_list-returns-in_err-write_value-clause-kept : goal.write_list-returns-in_err-write_value-clause-kept
write_list-returns-in_err-write_value-clause-kept t c =
    Extends-trans _ _ _ (Extends-more _ _ _ _ c.loop-index.invariant.2 c.in_ok-write_comma.ensures.ok) c.in_err-write_value.ensures.kept

pub write_object-returns-in_err-write_comma-clause-kept : goal.write_object-returns-in_err-write_comma-clause-kept
write_object-returns-in_err-write_comma-clause-kept t c =
    Extends-same _ _ _ c.loop-index.invariant.2 c.in_err-write_comma.ensures.err

pub write_object-returns-in_err-write_name-clause-kept : goal.write_object-returns-in_err-write_name-clause-kept
write_object-returns-in_err-write_name-clause-kept t c =
    Extends-trans _ _ _ (Extends-more _ _ _ _ c.loop-index.invariant.2 c.in_ok-write_comma.ensures.ok) c.in_err-write_name.ensures.kept

pub write_object-returns-in_err-write_value-clause-kept : goal.write_object-returns-in_err-write_value-clause-kept
write_object-returns-in_err-write_value-clause-kept t c =
    Extends-trans _ _ _ (Extends-trans _ _ _ (Extends-more _ _ _ _ c.loop-index.invariant.2 c.in_ok-write_comma.ensures.ok) c.in_ok-write_name.ensures.kept) c.in_err-write_value.ensures.kept

pub write_list-returns-clause-kept : goal.write_list-returns-clause-kept
write_list-returns-clause-kept t c =
    Extends-if _ _ _ _ _ c.loop-index.invariant.2 c.extend_from_slice-2.ensures.items

pub write_object-returns-clause-kept : goal.write_object-returns-clause-kept
write_object-returns-clause-kept t c =
    Extends-if _ _ _ _ _ c.loop-index.invariant.2 c.extend_from_slice-2.ensures.items
