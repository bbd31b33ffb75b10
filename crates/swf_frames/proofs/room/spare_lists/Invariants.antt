use Rattle.std.proofs.Common.{◌≡◌}
use Rattle.std.specs.Prelude.{All, vec_len}
use Rattle.swf_frames.specs.Room.{IsSpare}
use Rattle.swf_frames.proofs.room.spare_lists.Given as goal

abbrev pub invariant-loop-place : goal.invariant-loop-place
invariant-loop-place g l = record { len : vec_len l.lists ≡ l._place; spare : All IsSpare l.lists.items }
