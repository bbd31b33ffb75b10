use denote.Param.Send.{sendable}
use Rattle.swf_tasks.proofs.MachineSends.{machine_send, machine_sync}
use Rattle.swf_tasks.proofs.crossing.machine_crosses.Goals as goal

pub crosses-requires-send-T : goal.crosses-requires-send-T
crosses-requires-send-T c κs = search (sendable, machine_send) depth 4

pub crosses-requires-sync-T : goal.crosses-requires-sync-T
crosses-requires-sync-T c κs = search (sendable, machine_sync) depth 4
