-- What a call is answered, and the value that says so: a status from 100 to 599 (RFC 9110, section 15), headers and content.
use Rattle.std.specs.Prelude.{◌&&◌, ℕ, pos, List, Bool, true, codes, IsTrue, nat_le, Option, Some, None, if◌then◌else◌}
use Rattle.swf_text.specs.Same.{same}
use Rattle.swf_value.specs.Value.{Value, boolean, int, object, Members, no_members, member}
use Rattle.swf_calls.specs.declared.headers.Header.{Header}
use Rattle.swf_calls.specs.declared.reply.CallReply.{CallReply}
use Rattle.swf_calls.specs.declared.reply.CallReply.TheVariants.{Answer, Unreached}
use Rattle.swf_calls.specs.Headers.{header_members, headers_of}

-- `{"content":..,"headers":{..},"status":N}`, or `{"unreached":true}`
abbrev pub reply_value : CallReply → Value
reply_value (Answer status headers content) =
    object (member (codes "content") content (member (codes "headers") (object (header_members headers)) (member (codes "status") (int (pos status)) no_members)))
reply_value Unreached = object (member (codes "unreached") (boolean true) no_members)

-- a status is from 100 to 599
abbrev pub is_status : ℕ → Bool
is_status n = nat_le 100 n && nat_le n 599

-- the status of an answer is one
abbrev pub IsInRange : CallReply → Type 0
IsInRange (Answer status headers content) = IsTrue (is_status status)
IsInRange Unreached = Unit {0}

abbrev pub status_of : Value → Option ℕ
status_of (int (pos n)) = if is_status n then Some n else None
status_of v = None

abbrev pub answered : Value → Option (List Header) → Option ℕ → Option CallReply
answered content (Some headers) (Some status) = Some (Answer status headers content)
answered content headers status = None

abbrev pub unreached : Value → Option CallReply
unreached (boolean true) = Some Unreached
unreached v = None

-- a reply has all of its members and no other
abbrev pub reply_in : Members → Option CallReply
reply_in (member k v no_members) = if same k (codes "unreached") then unreached v else None
reply_in (member k content (member l headers (member m status no_members))) =
    if same k (codes "content") && same l (codes "headers") && same m (codes "status") then answered content (headers_of headers) (status_of status) else None
reply_in ms = None

-- the reply that a value is
abbrev pub reply_of : Value → Option CallReply
reply_of (object ms) = reply_in ms
reply_of v = None
