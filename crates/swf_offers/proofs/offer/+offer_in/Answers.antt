use Rattle.std.proofs.Common.{◌≡◌, ◌+◌, arith, subst}
use Rattle.swf_strands.proofs.AskLemmas.{child-place}
use Rattle.swf_offers.proofs.OfferLemmas.{IsSoFar, added, far-first, far-held, far-fewer, far-more, far-all}
use Rattle.swf_strands.proofs.TreeLemmas.{child-held}
use Rattle.swf_offers.proofs.offer.+offer_in.Goals as goal

pub loop-child-init : goal.loop-child-init
loop-child-init t c = (omega arith, far-first c.args.offer.now c.args.strand c.args.forest.now c.offer_here.new.forest c.in_ok-taken.taken c.requires c.in_ok-taken.ensures)

pub child_of-requires : goal.child_of-requires
child_of-requires t c = far-held c.args.offer.now c.args.strand c.args.forest.now c.loop-child.number c.loop-child.forest c.loop-child.taken c.requires c.loop-child.invariant.1

pub offer_in-requires : goal.offer_in-requires
offer_in-requires t c =
    let held = far-held c.args.offer.now c.args.strand c.args.forest.now c.loop-child.number c.loop-child.forest c.loop-child.taken c.requires c.loop-child.invariant.1 in
    let less = far-fewer c.args.offer.now c.args.strand c.args.forest.now c.loop-child.number c.loop-child.forest c.loop-child.taken c.in-Some.child c.requires c.loop-child.invariant.1 c.in-Some.ensures.child in
    (omega (arith, less), child-held c.loop-child.forest c.args.strand c.loop-child.number c.in-Some.child held c.in-Some.ensures.child)

pub loop-child-smaller : goal.loop-child-smaller
loop-child-smaller t c =
    let held = far-held c.args.offer.now c.args.strand c.args.forest.now c.loop-child.number c.loop-child.forest c.loop-child.taken c.requires c.loop-child.invariant.1 in
    let place = child-place c.loop-child.forest c.args.strand c.loop-child.number c.in-Some.child held c.in-Some.ensures.child in
    omega (arith, place)

pub loop-child-preserved : goal.loop-child-preserved
loop-child-preserved t c =
    let held = far-held c.args.offer.now c.args.strand c.args.forest.now c.loop-child.number c.loop-child.forest c.loop-child.taken c.requires c.loop-child.invariant.1 in
    let place = child-place c.loop-child.forest c.args.strand c.loop-child.number c.in-Some.child held c.in-Some.ensures.child in
    let sum : c.loop-child.taken + c.in_ok-more.more ≡ c.in_ok-taken-2.taken = added c.checked_add.result c.in_ok-taken-2.taken (c.loop-child.taken + c.in_ok-more.more) _ c.in_ok-taken-2.ensures.ok_part c.checked_add.ensures in (
      omega (arith, place),
      subst (λ k. IsSoFar c.args.offer.now c.args.strand c.args.forest.now (c.loop-child.number + 1) c.offer_in.new.forest k) sum
          (far-more c.args.offer.now c.args.strand c.args.forest.now c.loop-child.number c.loop-child.forest c.offer_in.new.forest c.loop-child.taken c.in-Some.child c.in_ok-more.more c.requires c.loop-child.invariant.1 c.in-Some.ensures.child c.in_ok-more.ensures),
    )

pub returns : goal.returns
returns t c = far-all c.args.offer.now c.args.strand c.args.forest.now c.loop-child.number c.loop-child.forest c.loop-child.taken c.requires c.loop-child.invariant.1 c.in_default.ensures.none
