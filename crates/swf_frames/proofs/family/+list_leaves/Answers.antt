use Rattle.std.proofs.Common.{◌≡◌, ◌∙◌, ◌+◌, ◌++◌, length, drop, sym, ap, rules, arith}
use Rattle.std.specs.Vec.{vec_len}
use Rattle.std.proofs.lemmas.List.{take_rest}
use Rattle.swf_frames.specs.Stacks.{rows, under}
use Rattle.swf_frames.specs.Tree.{leaves}
use Rattle.swf_frames.proofs.FamilyLemmas.{under_child, leaf_told}
use Rattle.swf_frames.proofs.family.+list_leaves.Goals as goal

pub loop-place-preserved-in-Continue-branch-2 : goal.loop-place-preserved-in-Continue-branch-2
loop-place-preserved-in-Continue-branch-2 g t c =
    let ss = c.args.stacks.now in
    let s = c.index-stacks-place.result in
    let place = c.loop-place.place in
    let after = rows (drop (place + 1) ss) in
    let old = c.loop-place.list in
    let new = c.list_leaves.new.list in
    let len_old : vec_len old ≡ length old.items = search rules in
    let len_new : vec_len new ≡ length new.items = search rules in
    let listed : new.items ≡ old.items ++ leaves (under s.strand after) = rw (take_rest ss (place + 1)) at c.in_ok-list_leaves.ensures in
    let same : length new.items ≡ length old.items = omega arith in
    record {
      in_range = omega arith;
      told = ap (λ xs. xs ++ leaves (under c.args.parent after)) c.in_ok-push.ensures.items
          ∙ leaf_told old.items new.items _ s.strand s.frames.items (under s.strand after) (under c.args.parent after) (under c.args.parent (rows (drop place ss))) listed same (under_child c.args.parent ss place s c.loop-place-test.true c.index-stacks-place.is (sym c.is_child_of.ensures ∙ c.if-is_child_of.true)) c.loop-place.invariant.told;
    }
