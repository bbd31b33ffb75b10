use denote.Param.Send.{sendable}
use Rattle.swf_document.proofs.Sent.{document_send, document_sync, tasks_send, tasks_sync, spec_send, spec_sync}
use Rattle.swf_document.proofs.crossing.document_crosses.Goals as goal

pub crosses-requires-send-T : goal.crosses-requires-send-T
crosses-requires-send-T c κs = search (sendable, document_send) depth 4

pub crosses-requires-sync-T : goal.crosses-requires-sync-T
crosses-requires-sync-T c κs = search (sendable, document_sync) depth 4

pub crosses-requires-2-send-T : goal.crosses-requires-2-send-T
crosses-requires-2-send-T c κs = search (sendable, tasks_send) depth 4

pub crosses-requires-2-sync-T : goal.crosses-requires-2-sync-T
crosses-requires-2-sync-T c κs = search (sendable, tasks_sync) depth 4

pub crosses-requires-4-send-T : goal.crosses-requires-4-send-T
crosses-requires-4-send-T c κs = search (sendable, spec_send) depth 4

pub crosses-requires-4-sync-T : goal.crosses-requires-4-sync-T
crosses-requires-4-sync-T c κs = search (sendable, spec_sync) depth 4
