-- Connectors in memory may go to another thread.
use denote.Param.Send.{sendable}
use denote.Param.Sent.{Sends}
use Rattle.swf_connect.proofs.Sends.{memory_connector_send}
use Rattle.swf_test_connect.proofs.boards.asked.OwnLists.{part-1-1}

pub sends-part-1-1 : Sends part-1-1
sends-part-1-1 = search (sendable, memory_connector_send) depth 6
