use Rattle.std.proofs.Common.{length}
use Rattle.swf_strands.proofs.stand.+strand_at.Given as goal

abbrev pub decreases-strand_at : goal.decreases-strand_at
decreases-strand_at l = length l.branches.now
