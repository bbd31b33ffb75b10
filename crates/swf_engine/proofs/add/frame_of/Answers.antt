use Rattle.std.proofs.Common.{arith}
use Rattle.swf_record.proofs.Laws.{length_encodes}
use Rattle.swf_engine.proofs.add.frame_of.Goals as goal

pub build-requires : goal.build-requires
build-requires c = omega (arith, length_encodes _ _ c.in_ok-body.ensures)
