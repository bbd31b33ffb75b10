use Rattle.std.proofs.Common.{◌≤◌, ◌-◌}
use Rattle.swf_strands.specs.Strands.{most_beside}
use Rattle.swf_strands.proofs.AskLemmas.{below_held}
use Rattle.swf_offers.proofs.OpenLemmas.{IsClosedTo}
use Rattle.swf_offers.proofs.answer.+is_open_in.Given as goal

-- how many strands stand below
abbrev pub decreases-is_open_in : goal.decreases-is_open_in
decreases-is_open_in l = below_held l.forest.now l.strand

-- the call stands on none of the branches before this one
abbrev pub invariant-loop-child : goal.invariant-loop-child
invariant-loop-child l = (l.number ≤ most_beside) × IsClosedTo l.activity l.forest l.strand l.number

abbrev pub decreases-loop-child : goal.decreases-loop-child
decreases-loop-child l = most_beside - l.number
