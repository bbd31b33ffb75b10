use Rattle.std.proofs.Common.{ap, length, arith}
use Rattle.swf_record.proofs.Laws.{length_encodes}
use Rattle.swf_engine.proofs.replay.place_of.Goals as goal

pub returns : goal.returns
returns c = omega (arith, c.as_slice.ensures.len, ap length c.as_slice.ensures.value, length_encodes _ _ c.in_ok-bytes.ensures)
