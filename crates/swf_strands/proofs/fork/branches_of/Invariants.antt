use Rattle.std.proofs.Common.{◌≤◌, ◌-◌, length}
use Rattle.swf_strands.specs.Strands.{most_beside}
use Rattle.swf_strands.proofs.ForkLemmas.{AreFirst}
use Rattle.swf_strands.proofs.fork.branches_of.Given as goal

-- the branches up to here
abbrev pub invariant-loop-branches : goal.invariant-loop-branches
invariant-loop-branches l = (length l.branches.items ≤ most_beside) × AreFirst l.running l.branches.items

abbrev pub decreases-loop-branches : goal.decreases-loop-branches
decreases-loop-branches l = most_beside - length l.branches.items
