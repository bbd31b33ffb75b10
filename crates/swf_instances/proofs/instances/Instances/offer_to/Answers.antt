use Rattle.std.proofs.Common.{◌≡◌, ◌∙◌, ◌+◌, sym, subst, slice_get, Some, arith}
use Rattle.std.proofs.lemmas.List.{nil_from_length}
use Rattle.swf_instances.specs.Offers.{Covers}
use Rattle.swf_instances.proofs.OfferLemmas.{Between, Offered, between_done, between_first, between_more, between_next, offered_next, offered_skipped, takers_more}
use Rattle.swf_instances.proofs.instances.Instances.offer_to.Goals as goal

pub loop-number-init : goal.loop-number-init
loop-number-init c =
    let is = c.args.self.now.instances in
    let e = c.args.offer.now in
    let same = c.into_iter-number-iterator.ensures.into_iter_gives.0 in
    subst (λ hs. Between c.args.but e is c.into_iter-number-iterator.result.rest.items hs 0) (sym c.new-heard.ensures.items)
    (between_first c.args.but e is _ (subst (Covers e is) (sym same) c.requires))

pub at-requires : goal.at-requires
at-requires c =
    let next = between_next c.args.but c.args.offer.now c.args.self.now.instances c.in-Some.number c.loop-number.number-iterator.rest.items c.next.new.self.rest.items c.loop-number.heard.items c.loop-number.taken c.in-Some.ensures.steps.0 c.loop-number.invariant in
    omega (arith, next.all)

pub loop-number-preserved-then-number-but : goal.loop-number-preserved-then-number-but
loop-number-preserved-then-number-but c =
    let is = c.args.self.now.instances in
    let e = c.args.offer.now in
    let but = c.args.but in
    let k = c.in-Some.number in
    let left = c.next.new.self.rest.items in
    let hs = c.loop-number.heard.items in
    let was = c.loop-number.taken in
    let i = c.at.result.now in
    let at : slice_get is k ≡ Some i = c.at.ensures.there in
    let next = between_next but e is k c.loop-number.number-iterator.rest.items left hs was c.in-Some.ensures.steps.0 c.loop-number.invariant in
    between_more but e is k left hs c.offer_one.new.heard.items was c.in_ok-taken.taken next (
      subst (Offered (k + 1) but e is) (sym c.in_ok-more.ensures.heard) (offered_next k but e is hs i c.in_ok-more.more c.if-number-but.true at c.in_ok-more.ensures.taken next.so_far.0),
      λ all. c.in_ok-taken.ensures ∙ (λ j. next.so_far.1 all j + c.in_ok-more.ensures.taken j) ∙ sym (takers_more e is k i at),
    )

pub loop-number-preserved : goal.loop-number-preserved
loop-number-preserved c =
    let is = c.args.self.now.instances in
    let e = c.args.offer.now in
    let but = c.args.but in
    let k = c.in-Some.number in
    let left = c.next.new.self.rest.items in
    let hs = c.loop-number.heard.items in
    let was = c.loop-number.taken in
    let next = between_next but e is k c.loop-number.number-iterator.rest.items left hs was c.in-Some.ensures.steps.0 c.loop-number.invariant in
    between_more but e is k left hs hs was was next (
      offered_skipped k but e is hs c.if-number-but.false next.so_far.0,
      λ all. absurd (omega (arith, all, c.if-number-but.false, next.all)),
    )

pub returns-clause-heard : goal.returns-clause-heard
returns-clause-heard c =
    let left = c.loop-number.number-iterator.rest.items in
    let none = nil_from_length left (omega (arith, c.loop-number.number-iterator.rest.ok.0, c.in-None.ensures.steps.0)) in
    (between_done c.args.but c.args.offer.now c.args.self.now.instances left c.loop-number.heard.items c.loop-number.taken none c.loop-number.invariant).0

pub returns-clause-taken : goal.returns-clause-taken
returns-clause-taken c =
    let left = c.loop-number.number-iterator.rest.items in
    let none = nil_from_length left (omega (arith, c.loop-number.number-iterator.rest.ok.0, c.in-None.ensures.steps.0)) in
    (between_done c.args.but c.args.offer.now c.args.self.now.instances left c.loop-number.heard.items c.loop-number.taken none c.loop-number.invariant).1
