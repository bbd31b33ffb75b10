use Rattle.std.proofs.Common.{◌∙◌, sym}
use Rattle.swf_offers.proofs.ListenLemmas.{met-passed}
use Rattle.swf_offers.proofs.listening.takes.Goals as goal

pub loop-place-preserved-then-is_met : goal.loop-place-preserved-then-is_met
loop-place-preserved-then-is_met c =
    c.loop-place.invariant ∙ met-passed c.as_slice-filters.result.now c.loop-place.place c.args.bound.now c.args.heard.now c.args.offer.now c.loop-place-test.true (sym c.is_met.ensures ∙ c.if-is_met.true)
