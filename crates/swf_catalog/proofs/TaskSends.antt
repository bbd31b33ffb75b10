-- Which parts of a loaded document may go to another thread, and be lent to several: all of them. A lemma for each type, by those of its parts.
use denote.RattleType.{RattleType}
use denote.Param.Send.{IsSend, IsSync, sendable}
use Rattle.std.proofs.Crossing.{crosses}
use Rattle.swf_value.proofs.list.JsonList.TheLaws.TheKnot as json_knot
use Rattle.swf_value.specs.contracts.list.JsonList as json_list
use Rattle.swf_document.proofs.Sent.{json_send, json_sync, text_send, text_sync, tasks_send, tasks_sync, document_send, document_sync, problem_inside_send, problem_inside_sync}
use Rattle.swf_catalog.specs.contracts.shared.Shared as shared
use Rattle.swf_catalog.specs.contracts.row.Begins as begins
use Rattle.swf_catalog.specs.contracts.row.Row as row
use Rattle.swf_catalog.specs.contracts.words.Variables as variables
use Rattle.swf_catalog.specs.contracts.words.Members as members
use Rattle.swf_catalog.specs.contracts.words.Words as words
use Rattle.swf_catalog.specs.contracts.numbered.NumberedDocument as numbered
use Rattle.swf_catalog.specs.contracts.task.TaskRef as task
use Rattle.swf_catalog.specs.contracts.round.Iteration as iteration
use Rattle.swf_catalog.specs.contracts.round.SubWorkflow as sub
use Rattle.swf_catalog.specs.contracts.round.Round as round

pub json_list_send : IsSend json_list.the_row
json_list_send = search (sendable, crosses, json_knot.crosses, text_send, text_sync) depth 20

pub json_list_sync : IsSync json_list.the_row
json_list_sync = search (sendable, crosses, json_knot.crosses, text_send, text_sync) depth 20

-- ---- what several share
pub shared_send : (T : RattleType) → IsSend T → IsSync T → IsSend (shared.the_row T)
shared_send T s y = search (sendable, crosses) depth 20

pub shared_sync : (T : RattleType) → IsSend T → IsSync T → IsSync (shared.the_row T)
shared_sync T s y = search (sendable, crosses) depth 20

-- ---- a document with its tasks by number

pub begins_inside_send : IsSend (begins.the_field).row
begins_inside_send = search (sendable) depth 20

pub begins_inside_sync : IsSync (begins.the_field).row
begins_inside_sync = search (sendable) depth 20

pub row_inside_send : IsSend (row.the_field).row
row_inside_send = search (sendable, tasks_send, begins_inside_send) depth 20

pub row_send : IsSend row.the_row
row_send = search (sendable, row_inside_send) depth 4

pub row_inside_sync : IsSync (row.the_field).row
row_inside_sync = search (sendable, tasks_sync, begins_inside_sync) depth 20

pub row_sync : IsSync row.the_row
row_sync = search (sendable, row_inside_sync) depth 4

pub variables_inside_send : IsSend (variables.the_field).row
variables_inside_send = search (sendable, text_send) depth 20

pub variables_inside_sync : IsSync (variables.the_field).row
variables_inside_sync = search (sendable, text_sync) depth 20

pub members_inside_send : IsSend (members.the_field).row
members_inside_send = search (sendable, text_send) depth 20

pub members_inside_sync : IsSync (members.the_field).row
members_inside_sync = search (sendable, text_sync) depth 20

pub words_send : IsSend words.the_row
words_send = search (sendable, variables_inside_send, members_inside_send) depth 20

pub words_sync : IsSync words.the_row
words_sync = search (sendable, variables_inside_sync, members_inside_sync) depth 20

pub numbered_send : IsSend numbered.the_row
numbered_send = search (sendable, crosses, document_send, document_sync, begins_inside_send, row_send, words_send) depth 20

pub numbered_sync : IsSync numbered.the_row
numbered_sync = search (sendable, crosses, document_send, document_sync, begins_inside_sync, row_sync, words_sync) depth 20

pub shared_document_send : IsSend (shared.the_row numbered.the_row)
shared_document_send = search (sendable, shared_send, numbered_send, numbered_sync) depth 20

pub shared_document_sync : IsSync (shared.the_row numbered.the_row)
shared_document_sync = search (sendable, shared_sync, numbered_send, numbered_sync) depth 20

-- ---- a task, and for what it runs its list

pub task_send : IsSend task.the_row
task_send = search (sendable, shared_document_send) depth 20

pub task_sync : IsSync task.the_row
task_sync = search (sendable, shared_document_sync) depth 20

pub iteration_inside_send : IsSend (iteration.the_field).row
iteration_inside_send = search (sendable, json_list_send) depth 20

pub iteration_inside_sync : IsSync (iteration.the_field).row
iteration_inside_sync = search (sendable, json_list_sync) depth 20

pub sub_inside_send : IsSend (sub.the_field).row
sub_inside_send = search (sendable, shared_document_send, json_send) depth 20

pub sub_inside_sync : IsSync (sub.the_field).row
sub_inside_sync = search (sendable, shared_document_sync, json_sync) depth 20

pub round_inside_send : IsSend (round.the_field).row
round_inside_send = search (sendable, iteration_inside_send, problem_inside_send, sub_inside_send) depth 20

pub round_inside_sync : IsSync (round.the_field).row
round_inside_sync = search (sendable, iteration_inside_sync, problem_inside_sync, sub_inside_sync) depth 20
