use Rattle.std.proofs.Common.{arith}
use Rattle.swf_jq_builtins.proofs.Joins.{bytes_front}
use Rattle.swf_jq_builtins.proofs.pieces.joined.Goals as goal

pub returns-then-len-room : goal.returns-then-len-room
returns-then-len-room c =
    let f = bytes_front c.loop-i.draft _ _ c.loop-i.invariant in
    omega (arith, f, c.len.ensures)
