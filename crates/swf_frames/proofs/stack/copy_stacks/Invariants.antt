use Rattle.std.proofs.Common.{◌≡◌, take}
use Rattle.swf_frames.specs.Stacks.{rows}
use Rattle.swf_frames.proofs.stack.copy_stacks.Given as goal

abbrev pub invariant-loop-stack : goal.invariant-loop-stack
invariant-loop-stack g l = rows l.copies.items ≡ rows (take l.stack-index l.stacks)
