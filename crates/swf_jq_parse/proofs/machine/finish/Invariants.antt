use Rattle.std.proofs.Common.{◌≡◌, length}
use Rattle.swf_jq_parse.specs.Machine.{whole}
use Rattle.swf_jq_parse.proofs.machine.finish.Given as goal

abbrev pub invariant-loop-item : goal.invariant-loop-item
invariant-loop-item l = whole l.stack l.value l.at ≡ whole l.fn.stack l.initial.value l.at

abbrev pub decreases-loop-item : goal.decreases-loop-item
decreases-loop-item l = length l.stack
