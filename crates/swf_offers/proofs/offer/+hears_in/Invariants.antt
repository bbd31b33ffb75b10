use Rattle.std.proofs.Common.{◌≤◌, ◌-◌}
use Rattle.swf_strands.specs.Strands.{most_beside}
use Rattle.swf_strands.proofs.AskLemmas.{below_held}
use Rattle.swf_offers.proofs.OfferLemmas.{IsUnheard}
use Rattle.swf_offers.proofs.offer.+hears_in.Given as goal

-- how many strands stand below
abbrev pub decreases-hears_in : goal.decreases-hears_in
decreases-hears_in l = below_held l.forest.now l.strand

-- none of the branches before this one takes the event
abbrev pub invariant-loop-child : goal.invariant-loop-child
invariant-loop-child l = (l.number ≤ most_beside) × IsUnheard l.offer l.forest l.strand l.number

abbrev pub decreases-loop-child : goal.decreases-loop-child
decreases-loop-child l = most_beside - l.number
