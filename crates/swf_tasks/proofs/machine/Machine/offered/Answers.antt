use Rattle.std.proofs.Common.{◌∙◌, Some, ap, refl, sym}
use Rattle.swf_strands.proofs.TreeLemmas.{root-held}
use Rattle.swf_offers.proofs.OfferLemmas.{offered-all}
use Rattle.swf_tasks.specs.Prepares.{node_after}
use Rattle.swf_tasks.proofs.PrepareLemmas.{offered-some}
use Rattle.swf_tasks.proofs.machine.Machine.offered.Goals as goal

pub offer_in-requires : goal.offer_in-requires
offer_in-requires c = root-held c.in_ok-forest.forest c.root-root.result c.root-root.ensures.root c.root-root.ensures.distinct c.in_ok-forest.ensures.grown

pub returns : goal.returns
returns c =
    offered-some c.args.prepared _ c.args.self.now c.in_ok-offer.offer c.in_ok-forest.forest.strands c.offer_in.new.forest c.in_ok-offer_in.field-0 (c.in-Some.is ∙ ap Some (sym (c.in_ok-offer.ensures ∙ c.get.ensures)))
    (c.in_ok-forest.ensures.node ∙ ap (λ w. node_after c.args.prepared.strands w c.args.self.now.node) c.as_slice.ensures)
    (offered-all c.in_ok-offer.offer c.in_ok-forest.forest c.offer_in.new.forest c.root-root.result c.in_ok-offer_in.field-0 c.root-root.ensures.root c.in_ok-forest.ensures.grown c.in_ok-offer_in.ensures) refl
