use Rattle.std.proofs.Common.{◌≡◌, ◌+◌, ◌<◌, ◌≤◌, ◌^◌, ◌++◌, reverse}
use Rattle.std.specs.Prelude.{All, vec_len, vec_capacity}
use Rattle.swf_frames.specs.Room.{IsSpare}
use Rattle.swf_frames.specs.Stacks.{rows, fresh_rows}
use Rattle.swf_frames.proofs.room.add_stacks.Given as goal

abbrev pub invariant-loop-frame : goal.invariant-loop-frame
invariant-loop-frame g l = record {
  room : vec_len l.stacks + vec_len l.frames ≤ vec_capacity l.stacks;
  fits : l.next + vec_len l.frames < 2 ^ 64;
  len : vec_len l.lists ≡ vec_len l.frames;
  spare : All IsSpare l.lists.items;
  same : rows l.stacks.items ++ fresh_rows l.parent l.next (reverse l.frames.items) ≡ rows l.fn.stacks.items ++ fresh_rows l.parent l.fn.first l.fn.frames.items;
}

abbrev pub decreases-loop-frame : goal.decreases-loop-frame
decreases-loop-frame g l = vec_len l.frames
