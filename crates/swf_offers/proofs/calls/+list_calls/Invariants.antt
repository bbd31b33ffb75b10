use Rattle.std.proofs.Common.{◌≤◌, ◌-◌}
use Rattle.swf_strands.specs.Strands.{most_beside}
use Rattle.swf_strands.proofs.AskLemmas.{below_held}
use Rattle.swf_offers.proofs.CallLemmas.{AreCalled}
use Rattle.swf_offers.proofs.calls.+list_calls.Given as goal

-- how many strands stand below
abbrev pub decreases-list_calls : goal.decreases-list_calls
decreases-list_calls l = below_held l.forest.now l.strand

-- those of the strand and of the branches before this one are in the list
abbrev pub invariant-loop-child : goal.invariant-loop-child
invariant-loop-child l = (l.number ≤ most_beside) × AreCalled l.forest l.strand l.fn.calls.items l.number l.calls.items

abbrev pub decreases-loop-child : goal.decreases-loop-child
decreases-loop-child l = most_beside - l.number
