use denote.Param.Send.{sendable}
use Rattle.swf_stack.proofs.Sends.{running_send, running_sync, frame_send, frame_sync, top_send, top_sync, stand_send, stand_sync, made_send, made_sync}
use Rattle.swf_stack.proofs.crossing.stand_crosses.Goals as goal

pub crosses-requires-send-T : goal.crosses-requires-send-T
crosses-requires-send-T c κs = search (sendable, running_send) depth 4

pub crosses-requires-sync-T : goal.crosses-requires-sync-T
crosses-requires-sync-T c κs = search (sendable, running_sync) depth 4

pub crosses-requires-2-send-T : goal.crosses-requires-2-send-T
crosses-requires-2-send-T c κs = search (sendable, frame_send) depth 4

pub crosses-requires-2-sync-T : goal.crosses-requires-2-sync-T
crosses-requires-2-sync-T c κs = search (sendable, frame_sync) depth 4

pub crosses-requires-3-send-T : goal.crosses-requires-3-send-T
crosses-requires-3-send-T c κs = search (sendable, top_send) depth 4

pub crosses-requires-3-sync-T : goal.crosses-requires-3-sync-T
crosses-requires-3-sync-T c κs = search (sendable, top_sync) depth 4

pub crosses-requires-4-send-T : goal.crosses-requires-4-send-T
crosses-requires-4-send-T c κs = search (sendable, stand_send) depth 4

pub crosses-requires-4-sync-T : goal.crosses-requires-4-sync-T
crosses-requires-4-sync-T c κs = search (sendable, stand_sync) depth 4

pub crosses-requires-5-send-T : goal.crosses-requires-5-send-T
crosses-requires-5-send-T c κs = search (sendable, made_send) depth 4

pub crosses-requires-5-sync-T : goal.crosses-requires-5-sync-T
crosses-requires-5-sync-T c κs = search (sendable, made_sync) depth 4
