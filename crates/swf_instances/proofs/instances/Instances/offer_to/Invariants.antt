use Rattle.swf_instances.proofs.OfferLemmas.{Between}
use Rattle.swf_instances.proofs.instances.Instances.offer_to.Given as goal

-- the event was offered to those before the ones that are left
abbrev pub invariant-loop-number : goal.invariant-loop-number
invariant-loop-number l = Between l.but l.offer l.self.instances l.number-iterator.rest.items l.heard.items l.taken
