use denote.Param.Send.{sendable}
use Rattle.swf_connect.proofs.Sends.{memory_connector_send, http_memory_send}
use Rattle.swf_connect.proofs.crossing.connectors_cross.Goals as goal

pub crosses-requires-send-T : goal.crosses-requires-send-T
crosses-requires-send-T c κs = search (sendable, memory_connector_send) depth 4

pub crosses-requires-2-send-T : goal.crosses-requires-2-send-T
crosses-requires-2-send-T c κs = search (sendable, http_memory_send) depth 4
