use Rattle.std.proofs.Common.{length}
use Rattle.swf_strands.proofs.order.+lead_on.Given as goal

abbrev pub decreases-lead_on : goal.decreases-lead_on
decreases-lead_on l = length l.behind.now
