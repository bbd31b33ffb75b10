use Rattle.std.proofs.Common.{◌≤◌, ◌-◌}
use Rattle.swf_strands.specs.Strands.{most_beside}
use Rattle.swf_strands.proofs.AskLemmas.{below_held, IsLeft}
use Rattle.swf_strands.proofs.ask.+enabled_in.Given as goal

-- how many strands stand below
abbrev pub decreases-enabled_in : goal.decreases-enabled_in
decreases-enabled_in l = below_held l.forest.now l.strand

-- none of the branches before this one can take a step
abbrev pub invariant-loop-child : goal.invariant-loop-child
invariant-loop-child l = (l.number ≤ most_beside) × IsLeft l.now l.forest l.strand l.number

abbrev pub decreases-loop-child : goal.decreases-loop-child
decreases-loop-child l = most_beside - l.number
