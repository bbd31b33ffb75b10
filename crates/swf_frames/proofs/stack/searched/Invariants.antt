use Rattle.std.proofs.Common.{◌-◌}
use Rattle.swf_frames.proofs.SearchLemmas.{IsSearched}
use Rattle.swf_frames.proofs.stack.searched.Given as goal

abbrev pub invariant-loop-low : goal.invariant-loop-low
invariant-loop-low g l = IsSearched l.stacks l.strand l.low l.high

abbrev pub decreases-loop-low : goal.decreases-loop-low
decreases-loop-low g l = l.high - l.low
