use denote.Param.Send.{sendable}
use Rattle.swf_strands.proofs.StrandSends.{strands_send, strands_sync}
use Rattle.swf_strands.proofs.crossing.strands_cross.Goals as goal

pub crosses-requires-send-T : goal.crosses-requires-send-T
crosses-requires-send-T c κs = search (sendable, strands_send) depth 4

pub crosses-requires-sync-T : goal.crosses-requires-sync-T
crosses-requires-sync-T c κs = search (sendable, strands_sync) depth 4
