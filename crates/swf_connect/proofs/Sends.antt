-- Connectors in memory may go to another thread.
use denote.Param.Send.{IsSend, IsSync, sendable}
use Rattle.std.proofs.Crossing.{crosses}
use Rattle.std.proofs.option.Option.TheSendSync as option
use Rattle.swf_text.proofs.text.Text.TheSendSync as text_law
use Rattle.swf_text.specs.contracts.text.Text as text
use Rattle.swf_value.proofs.list.JsonList.TheLaws.TheKnot as json_knot
use Rattle.swf_value.specs.contracts.value.Json as json
use Rattle.swf_calls.specs.contracts.headers.Header as header
use Rattle.swf_calls.specs.contracts.headers.Headers as headers
use Rattle.swf_calls.specs.contracts.method.Method as method
use Rattle.swf_calls.specs.contracts.request.CallRequest as request
use Rattle.swf_calls.specs.contracts.reply.CallReply as reply
use Rattle.swf_connect.specs.contracts.asked.Asked as asked
use Rattle.swf_connect.specs.contracts.memory_connector.MemoryConnector as memory_connector
use Rattle.swf_connect.specs.contracts.memory_dial.MemoryDial as memory_dial
use Rattle.swf_connect.specs.contracts.http_connector.HttpConnector as http_connector
use Rattle.swf_connect.specs.contracts.talks.Talks as talks
use Rattle.swf_connect.proofs.talks.Talks.TheLaws.TheKnot as talks_knot

text_send : IsSend text.the_row
text_send = text_law.the_send

text_sync : IsSync text.the_row
text_sync = text_law.the_sync

json_send : IsSend json.the_row
json_send = search (sendable, crosses, json_knot.crosses, text_send, text_sync) depth 20

header_inside_send : IsSend (header.the_field).row
header_inside_send = search (sendable, text_send) depth 20

header_send : IsSend header.the_row
header_send = search (sendable, header_inside_send) depth 4

headers_send : IsSend headers.the_row
headers_send = search (sendable, crosses, header_send) depth 20

method_inside_send : IsSend (method.the_field).row
method_inside_send = search sendable depth 20

request_send : IsSend request.the_row
request_send = search (sendable, method_inside_send, text_send, headers_send, json_send, option.the_field_send) depth 20

reply_inside_send : IsSend (reply.the_field).row
reply_inside_send = search (sendable, headers_send, json_send) depth 20

reply_send : IsSend reply.the_row
reply_send = search (sendable, reply_inside_send) depth 4

asked_inside_send : IsSend (asked.the_field).row
asked_inside_send = search (sendable, request_send, reply_send, option.the_field_send) depth 20

pub asked_send : IsSend asked.the_row
asked_send = search (sendable, asked_inside_send) depth 4

pub memory_connector_send : IsSend memory_connector.the_row
memory_connector_send = search (sendable, crosses, text_send, reply_send, asked_send) depth 20

talks_send : IsSend talks.the_row
talks_send = search (sendable, crosses, talks_knot.crosses) depth 20

pub memory_dial_send : IsSend memory_dial.the_row
memory_dial_send = search (sendable, crosses, talks_send) depth 20

pub http_memory_send : IsSend (http_connector.the_row memory_dial.the_row)
http_memory_send = search (sendable, crosses, memory_dial_send) depth 20
