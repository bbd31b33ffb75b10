use Rattle.std.proofs.Common.{◌-◌, length}
use Rattle.swf_tasks.proofs.step.+step_of.Given as goal

-- how many branch numbers are left
abbrev pub decreases-step_of : goal.decreases-step_of
decreases-step_of l = length l.strand.now - l.depth
