use Rattle.std.proofs.Common.{◌≡◌, take}
use Rattle.swf_frames.proofs.stack.copy_frames.Given as goal

abbrev pub invariant-loop-frame : goal.invariant-loop-frame
invariant-loop-frame g l = l.copies.items ≡ take l.frame-index l.frames
