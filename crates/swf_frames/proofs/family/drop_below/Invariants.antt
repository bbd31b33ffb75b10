use Rattle.swf_frames.proofs.SiftLemmas.{IsSifted}
use Rattle.swf_frames.proofs.family.drop_below.Given as goal

abbrev pub invariant-loop-place : goal.invariant-loop-place
invariant-loop-place g l = IsSifted l.fn.stacks.items l.stacks.items l.strand l.done l.place l.place-end
