use denote.Param.Send.{sendable}
use Rattle.swf_catalog.proofs.TaskSends.{shared_document_send, shared_document_sync, task_send, task_sync, round_inside_send, round_inside_sync}
use Rattle.swf_catalog.proofs.crossing.task_crosses.Goals as goal

pub crosses-requires-send-T : goal.crosses-requires-send-T
crosses-requires-send-T c κs = search (sendable, shared_document_send) depth 4

pub crosses-requires-sync-T : goal.crosses-requires-sync-T
crosses-requires-sync-T c κs = search (sendable, shared_document_sync) depth 4

pub crosses-requires-2-send-T : goal.crosses-requires-2-send-T
crosses-requires-2-send-T c κs = search (sendable, task_send) depth 4

pub crosses-requires-2-sync-T : goal.crosses-requires-2-sync-T
crosses-requires-2-sync-T c κs = search (sendable, task_sync) depth 4

pub crosses-requires-3-send-T : goal.crosses-requires-3-send-T
crosses-requires-3-send-T c κs = search (sendable, round_inside_send) depth 4

pub crosses-requires-3-sync-T : goal.crosses-requires-3-sync-T
crosses-requires-3-sync-T c κs = search (sendable, round_inside_sync) depth 4
