use Rattle.std.proofs.Common.{◌≡◌, ◌+◌, ◌++◌, drop}
use Rattle.swf_frames.specs.Tree.{numbers, fresh}
use Rattle.swf_frames.proofs.room.name_all.Given as goal

abbrev pub invariant-loop-place : goal.invariant-loop-place
invariant-loop-place g l = l.names.items ++ numbers (fresh (l.first + l.place) (drop l.place l.frames)) ≡ numbers (fresh l.first l.frames)
