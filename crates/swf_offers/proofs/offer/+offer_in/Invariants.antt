use Rattle.std.proofs.Common.{◌≤◌, ◌-◌}
use Rattle.swf_strands.specs.Strands.{most_beside}
use Rattle.swf_strands.proofs.AskLemmas.{below_held}
use Rattle.swf_offers.proofs.OfferLemmas.{IsSoFar}
use Rattle.swf_offers.proofs.offer.+offer_in.Given as goal

-- how many strands stand below
abbrev pub decreases-offer_in : goal.decreases-offer_in
decreases-offer_in l = below_held l.forest.now l.strand

-- the event was offered to the strand, and to the branches before this one
abbrev pub invariant-loop-child : goal.invariant-loop-child
invariant-loop-child l = (l.number ≤ most_beside) × IsSoFar l.offer l.strand l.fn.forest l.number l.forest l.taken

abbrev pub decreases-loop-child : goal.decreases-loop-child
decreases-loop-child l = most_beside - l.number
