-- What a whole head of a response says of what follows it (RFC 9112, section 6.3).
use Rattle.std.specs.Prelude.{ℕ, ◌/◌, ◌==◌, ◌||◌, Bool, false, nat_lt, length, map, Option, Some, None, Result, Ok, Err, if◌then◌else◌}
use Rattle.httparse.specs.Grammar.{ResponseHead, status_code}
use Rattle.httparse.specs.Spans.{name_and_value}
use Rattle.http1.specs.Fields.{known_fields}
use Rattle.http1.specs.Framing.{by_fields, is_bodiless_status}
use Rattle.http1.specs.declared.fields.KnownFields.{KnownFields}
use Rattle.http1.specs.declared.framing.Framing.{Framing}
use Rattle.http1.specs.declared.framing.Framing.TheVariants.{NoBody, Length, Chunked, UntilClose}
use Rattle.http1.specs.declared.framing.FramingError.{FramingError}
use Rattle.swf_calls.specs.Reply.{is_status}
use Rattle.swf_http.specs.Limits.{most_body, most_fields}
use Rattle.swf_http.specs.declared.follow.Follow.{Follow}
use Rattle.swf_http.specs.declared.follow.Follow.TheVariants.{Bad, TooLong, Interim, Body}

-- fields that disagree are none of a message, also where no body follows
abbrev pub framed : Bool → Result Framing FramingError → Option Framing
framed bodiless (Ok framing) = Some (if bodiless then NoBody else framing)
framed bodiless (Err e) = None

-- how the body of a response of HTTP/1.minor is framed; `head` says that none follows
abbrev pub framing_of : Bool → ℕ → ℕ → KnownFields → Option Framing
framing_of head status minor k =
    if is_status status
    then framed (head || is_bodiless_status status) (by_fields minor UntilClose (Ok UntilClose) k.transfer_encoding k.content_length)
    else None

-- a length greater than that of any body
abbrev pub is_large : Framing → Bool
is_large NoBody = false
is_large (Length n) = nat_lt most_body n
is_large Chunked = false
is_large UntilClose = false

-- no message goes before a message that is too long
abbrev pub followed : Option Framing → Bool → Bool → Follow
followed None many interim = Bad
followed (Some framing) many interim = if many || is_large framing then TooLong else (if interim then Interim else Body framing)

-- what a status and fields lead to; another response follows one of status 100 to 199
abbrev pub follow_fields : Bool → ℕ → ℕ → KnownFields → ℕ → Follow
follow_fields head status minor k count = followed (framing_of head status minor k) (nat_lt most_fields count) (status / 100 == 1)

-- what a whole head leads to
abbrev pub follow_of : Bool → ResponseHead → Follow
follow_of head h = follow_fields head (status_code h) h.minor (known_fields (map name_and_value h.fields)) (length h.fields)
