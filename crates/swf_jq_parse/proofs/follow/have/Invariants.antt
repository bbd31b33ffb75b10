use Rattle.std.proofs.Common.{◌≡◌, length}
use Rattle.swf_jq_parse.specs.Machine.{have}
use Rattle.swf_jq_parse.proofs.follow.have.Given as goal

abbrev pub invariant-loop-follower : goal.invariant-loop-follower
invariant-loop-follower l = have l.stack l.tight l.value l.at l.token ≡ have l.fn.stack 10 l.fn.of l.at l.fn.token

abbrev pub decreases-loop-follower : goal.decreases-loop-follower
decreases-loop-follower l = length l.stack
