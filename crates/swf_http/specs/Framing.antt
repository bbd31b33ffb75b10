-- What a whole head of a request says of its body (RFC 9112, section 6.3).
use Rattle.std.specs.Prelude.{ℕ, ◌||◌, Bool, nat_lt, length, map, Option, Some, None, Result, Ok, Err, if◌then◌else◌}
use Rattle.httparse.specs.Grammar.{RequestHead}
use Rattle.httparse.specs.Spans.{name_and_value}
use Rattle.http1.specs.Fields.{known_fields}
use Rattle.http1.specs.Framing.{request_framing}
use Rattle.http1.specs.declared.fields.KnownFields.{KnownFields}
use Rattle.http1.specs.declared.framing.Framing.{Framing}
use Rattle.http1.specs.declared.framing.Framing.TheVariants.{NoBody, Length, Chunked, UntilClose}
use Rattle.http1.specs.declared.framing.FramingError.{FramingError}
use Rattle.http1.specs.declared.framing.MethodKind.TheVariants.{Other}
use Rattle.swf_http.specs.Limits.{most_body, most_fields}
use Rattle.swf_http.specs.declared.judge.Judgement.{Judgement}
use Rattle.swf_http.specs.declared.judge.Judgement.TheVariants.{Bad, TooLong, Sized}

-- the length of a request's body: it is given, or 0; none where the body would be chunked or the fields disagree
abbrev pub size_of : Result Framing FramingError → Option ℕ
size_of (Ok NoBody) = Some 0
size_of (Ok (Length n)) = Some n
size_of (Ok Chunked) = None
size_of (Ok UntilClose) = None
size_of (Err e) = None

-- no message goes before a message that is too long
abbrev pub judged : Option ℕ → Bool → Judgement
judged None many = Bad
judged (Some n) many = if many || nat_lt most_body n then TooLong else Sized n

-- what fields of HTTP/1.minor lead to
abbrev pub judge_fields : ℕ → KnownFields → ℕ → Judgement
judge_fields minor known count = judged (size_of (request_framing Other minor known)) (nat_lt most_fields count)

-- what a whole head leads to
abbrev pub judge : RequestHead → Judgement
judge h = judge_fields h.minor (known_fields (map name_and_value h.fields)) (length h.fields)
