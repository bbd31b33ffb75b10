-- What is answered for a URI `greet:NAME`: `{"greeting":"hello NAME"}`, with the name as it stands in the URI.
use Rattle.std.specs.Prelude.{ℕ, [], ◌==◌, ◌++◌, ◌^◌, List, Bool, codes, chars, drop, is_some, length, nat_lt, Option, Some, None, if◌then◌else◌}
use Rattle.std.specs.List.{starts_with}
use Rattle.std.specs.Str.{encode_utf8_all}
use Rattle.swf_value.specs.Value.{Value, text, object, no_members, member}
use Rattle.swf_value.specs.Written.{written}
use Rattle.swf_calls.specs.Request.{Request}
use Rattle.swf_calls.specs.Reply.{reply_value}
use Rattle.swf_calls.specs.declared.reply.CallReply.{CallReply}
use Rattle.swf_calls.specs.declared.reply.CallReply.TheVariants.{Answer, Unreached}

-- what stands behind `greet:`, in UTF-8
abbrev pub name_in : List ℕ → Option (List ℕ)
name_in uri = if starts_with ◌==◌ uri (codes "greet:") then Some (drop 6 uri) else None

-- the name that a request asks to greet, if it does
abbrev pub name_of : Request → Option (List ℕ)
name_of request = name_in (encode_utf8_all request.uri)

-- `{"greeting":"hello NAME"}`
abbrev pub greeting : List ℕ → Value
greeting name = object (member (codes "greeting") (text (chars (codes "hello " ++ name))) no_members)

-- a journal can hold it
abbrev pub is_short : CallReply → Bool
is_short reply = nat_lt (length (written (reply_value reply))) (2 ^ 32)

-- one that a journal can hold is told
abbrev pub told : CallReply → CallReply
told reply = if is_short reply then reply else Unreached

abbrev pub greeted : Option (List ℕ) → CallReply
greeted None = Unreached
greeted (Some name) = told (Answer 200 [] (greeting name))

-- what is answered to a request
abbrev pub reply_to : Request → CallReply
reply_to request = greeted (name_of request)
