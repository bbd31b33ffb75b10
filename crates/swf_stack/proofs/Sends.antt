-- Which parts of an instance may go to another thread, and be lent to several: all of them. A lemma for each type, by those of its parts.
use denote.Param.Send.{IsSend, IsSync, sendable}
use Rattle.std.proofs.Crossing.{crosses}
use Rattle.std.proofs.option.Option.TheSendSync as option
use Rattle.swf_value.proofs.list.JsonList.TheLaws.TheKnot as json_knot
use Rattle.swf_chain.proofs.chain.Chain.TheLaws.TheKnot as chain_knot
use Rattle.swf_chain.specs.contracts.chain.Chain as chain
use Rattle.swf_cloudevents.specs.contracts.named.NamedValues as named
use Rattle.swf_cloudevents.specs.contracts.event.Payload as payload
use Rattle.swf_cloudevents.specs.contracts.event.Event as event
use Rattle.swf_calls.specs.contracts.headers.Header as header
use Rattle.swf_calls.specs.contracts.headers.Headers as headers
use Rattle.swf_calls.specs.contracts.request.CallRequest as request
use Rattle.swf_calls.specs.contracts.reply.CallReply as reply
use Rattle.swf_document.specs.contracts.boxed.Boxed as boxed
use Rattle.swf_meaning.specs.contracts.heard.Heard as heard
use Rattle.swf_document.proofs.Sent.{text_send, text_sync, json_send, json_sync, boxed_send, boxed_sync, flow_inside_send, flow_inside_sync, listing_send, listing_sync, method_inside_send, method_inside_sync, problem_inside_send, problem_inside_sync}
use Rattle.swf_catalog.specs.contracts.shared.Shared as shared
use Rattle.swf_catalog.proofs.TaskSends.{shared_send, shared_sync, task_send, task_sync, round_inside_send, round_inside_sync}
use Rattle.swf_stack.specs.contracts.running.Running as running
use Rattle.swf_stack.specs.contracts.made.Frame as frame
use Rattle.swf_stack.specs.contracts.made.Top as top
use Rattle.swf_stack.specs.contracts.made.Stand as stand
use Rattle.swf_stack.specs.contracts.made.Made as made

-- ---- what the crates below have

pub named_send : IsSend named.the_row
named_send = search (sendable, crosses, json_knot.crosses, text_send, text_sync) depth 20

pub named_sync : IsSync named.the_row
named_sync = search (sendable, crosses, json_knot.crosses, text_send, text_sync) depth 20

pub payload_inside_send : IsSend (payload.the_field).row
payload_inside_send = search (sendable, text_send, json_send) depth 20

pub payload_inside_sync : IsSync (payload.the_field).row
payload_inside_sync = search (sendable, text_sync, json_sync) depth 20

pub event_inside_send : IsSend (event.the_field).row
event_inside_send = search (sendable, text_send, named_send, payload_inside_send) depth 20

pub event_send : IsSend event.the_row
event_send = search (sendable, event_inside_send) depth 4

pub event_inside_sync : IsSync (event.the_field).row
event_inside_sync = search (sendable, text_sync, named_sync, payload_inside_sync) depth 20

pub event_sync : IsSync event.the_row
event_sync = search (sendable, event_inside_sync) depth 4

pub heard_inside_send : IsSend (heard.the_field).row
heard_inside_send = search (sendable, event_inside_send) depth 20

pub heard_send : IsSend heard.the_row
heard_send = search (sendable, heard_inside_send) depth 4

pub heard_inside_sync : IsSync (heard.the_field).row
heard_inside_sync = search (sendable, event_inside_sync) depth 20

pub heard_sync : IsSync heard.the_row
heard_sync = search (sendable, heard_inside_sync) depth 4

pub header_inside_send : IsSend (header.the_field).row
header_inside_send = search (sendable, text_send) depth 20

pub header_send : IsSend header.the_row
header_send = search (sendable, header_inside_send) depth 4

pub header_inside_sync : IsSync (header.the_field).row
header_inside_sync = search (sendable, text_sync) depth 20

pub header_sync : IsSync header.the_row
header_sync = search (sendable, header_inside_sync) depth 4

pub headers_send : IsSend headers.the_row
headers_send = search (sendable, crosses, header_send) depth 20

pub headers_sync : IsSync headers.the_row
headers_sync = search (sendable, crosses, header_sync) depth 20

pub request_send : IsSend request.the_row
request_send = search (sendable, method_inside_send, text_send, headers_send, json_send, option.the_field_send) depth 20

pub request_sync : IsSync request.the_row
request_sync = search (sendable, method_inside_sync, text_sync, headers_sync, json_sync, option.the_field_sync) depth 20

pub shared_request_send : IsSend (shared.the_row request.the_row)
shared_request_send = shared_send request.the_row request_send request_sync

pub shared_request_sync : IsSync (shared.the_row request.the_row)
shared_request_sync = shared_sync request.the_row request_send request_sync

pub reply_inside_send : IsSend (reply.the_field).row
reply_inside_send = search (sendable, headers_send, json_send) depth 20

pub reply_send : IsSend reply.the_row
reply_send = search (sendable, reply_inside_send) depth 4

pub reply_inside_sync : IsSync (reply.the_field).row
reply_inside_sync = search (sendable, headers_sync, json_sync) depth 20

pub reply_sync : IsSync reply.the_row
reply_sync = search (sendable, reply_inside_sync) depth 4

-- ---- a task, and what a strand holds

pub running_send : IsSend running.the_row
running_send = search (sendable, task_send, json_send) depth 20

pub running_sync : IsSync running.the_row
running_sync = search (sendable, task_sync, json_sync) depth 20

pub sent_send : IsSend (boxed.the_row event.the_row)
sent_send = boxed_send event.the_row event_send

pub sent_sync : IsSync (boxed.the_row event.the_row)
sent_sync = boxed_sync event.the_row event_sync

pub frame_inside_send : IsSend (frame.the_field).row
frame_inside_send = search (sendable, running_send, round_inside_send) depth 20

pub frame_send : IsSend frame.the_row
frame_send = search (sendable, frame_inside_send) depth 4

pub frame_inside_sync : IsSync (frame.the_field).row
frame_inside_sync = search (sendable, running_sync, round_inside_sync) depth 20

pub frame_sync : IsSync frame.the_row
frame_sync = search (sendable, frame_inside_sync) depth 4

pub chain_frame_send : IsSend (chain.the_row frame.the_row)
chain_frame_send = search (sendable, crosses, chain_knot.crosses, frame_send, frame_sync) depth 20

pub chain_frame_sync : IsSync (chain.the_row frame.the_row)
chain_frame_sync = search (sendable, crosses, chain_knot.crosses, frame_send, frame_sync) depth 20

pub top_inside_send : IsSend (top.the_field).row
top_inside_send = search (sendable, task_send, running_send, json_send, flow_inside_send, problem_inside_send, option.the_field_send, named_send, heard_send, heard_sync, listing_send, text_send, shared_request_send, reply_send) depth 20

pub top_send : IsSend top.the_row
top_send = search (sendable, top_inside_send) depth 4

pub top_inside_sync : IsSync (top.the_field).row
top_inside_sync = search (sendable, task_sync, running_sync, json_sync, flow_inside_sync, problem_inside_sync, option.the_field_sync, named_sync, heard_send, heard_sync, listing_sync, text_sync, shared_request_sync, reply_sync) depth 20

pub top_sync : IsSync top.the_row
top_sync = search (sendable, top_inside_sync) depth 4

pub boxed_top_send : IsSend (boxed.the_row top.the_row)
boxed_top_send = boxed_send top.the_row top_send

pub boxed_top_sync : IsSync (boxed.the_row top.the_row)
boxed_top_sync = boxed_sync top.the_row top_sync

pub stand_inside_send : IsSend (stand.the_field).row
stand_inside_send = search (sendable, chain_frame_send, boxed_top_send) depth 20

pub stand_send : IsSend stand.the_row
stand_send = search (sendable, stand_inside_send) depth 4

pub stand_inside_sync : IsSync (stand.the_field).row
stand_inside_sync = search (sendable, chain_frame_sync, boxed_top_sync) depth 20

pub stand_sync : IsSync stand.the_row
stand_sync = search (sendable, stand_inside_sync) depth 4

boxed_frame_send : IsSend (boxed.the_row frame.the_row)
boxed_frame_send = boxed_send frame.the_row frame_send

boxed_frame_sync : IsSync (boxed.the_row frame.the_row)
boxed_frame_sync = boxed_sync frame.the_row frame_sync

pub made_inside_send : IsSend (made.the_field).row
made_inside_send = search (sendable, option.the_field_send, boxed_frame_send, boxed_top_send, json_send, sent_send) depth 20

pub made_send : IsSend made.the_row
made_send = search (sendable, made_inside_send) depth 4

pub made_inside_sync : IsSync (made.the_field).row
made_inside_sync = search (sendable, option.the_field_sync, boxed_frame_sync, boxed_top_sync, json_sync, sent_sync) depth 20

pub made_sync : IsSync made.the_row
made_sync = search (sendable, made_inside_sync) depth 4
