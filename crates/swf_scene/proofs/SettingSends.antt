-- What stays of an instance may go to another thread, and be lent to several.
use denote.Param.Send.{IsSend, IsSync, sendable}
use Rattle.swf_document.proofs.Sent.{text_send, text_sync, json_send, json_sync}
use Rattle.swf_duration.specs.contracts.moment.Moment as moment
use Rattle.swf_catalog.proofs.TaskSends.{shared_document_send, shared_document_sync}
use Rattle.swf_scene.specs.contracts.setting.Setting as setting

pub moment_send : IsSend moment.the_row
moment_send = search sendable depth 20

pub moment_sync : IsSync moment.the_row
moment_sync = search sendable depth 20

pub setting_inside_send : IsSend (setting.the_field).row
setting_inside_send = search (sendable, shared_document_send, text_send, json_send, moment_send) depth 20

pub setting_send : IsSend setting.the_row
setting_send = search (sendable, setting_inside_send) depth 4

pub setting_inside_sync : IsSync (setting.the_field).row
setting_inside_sync = search (sendable, shared_document_sync, text_sync, json_sync, moment_sync) depth 20

pub setting_sync : IsSync setting.the_row
setting_sync = search (sendable, setting_inside_sync) depth 4
