-- Connectors in memory may go to another thread.
use denote.Param.Send.{sendable}
use denote.Param.Sent.{Sends}
use Rattle.swf_connect.proofs.Sends.{memory_connector_send}
use Rattle.swf_test_sessions.proofs.run_over.OwnLists.{part-1-2}

pub sends-part-1-2 : Sends part-1-2
sends-part-1-2 = search (sendable, memory_connector_send) depth 6
