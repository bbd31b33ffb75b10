-- Whole requests.
use Rattle.std.specs.Prelude.{◌≡◌, ℕ, List, map, chars}
use Rattle.httparse.specs.Grammar.{RequestHead}
use Rattle.httparse.specs.Spans.{name_and_value}
use Rattle.swf_calls.specs.declared.headers.Header.{Header}
use Rattle.swf_http.specs.declared.judge.Judgement.{Judgement}
use Rattle.swf_http.specs.declared.judge.Judgement.TheVariants.{Bad, TooLong, Sized}
use Rattle.swf_http.specs.declared.message.Request.{Request}
use Rattle.swf_http.specs.Verdicts.{Verdict, whole, ended, long, bad, Then}
use Rattle.swf_http.specs.Limits.{most_head}
use Rattle.swf_http.specs.Pieces.{request_form, SaysPiece}
use Rattle.swf_http.specs.Framing.{judge}
use Rattle.swf_http.specs.Fields.{headers_of}
use Rattle.swf_http.specs.Bodies.{body_of}

-- a head and a body
abbrev pub Message : Type 0
Message = RequestHead × List ℕ

-- a head before a body
abbrev pub with_head : RequestHead → Verdict (List ℕ) → Verdict Message
with_head h (whole body rest) = whole (h, body) rest
with_head h ended = ended
with_head h long = long
with_head h bad = bad

-- what the bytes behind a head say of the message
abbrev pub behind_head : Judgement → RequestHead → List ℕ → Verdict Message
behind_head Bad h rest = bad
behind_head TooLong h rest = long
behind_head (Sized n) h rest = with_head h (body_of n rest)

-- what bytes say of a request
abbrev pub SaysRequest : List ℕ → Verdict Message → Type 0
SaysRequest bytes v = Then (SaysPiece request_form most_head) (λ h rest w. w ≡ behind_head (judge h) h rest) bytes v

-- the parts of a head, as values
pub record IsParts (h : RequestHead) (method target : List ℕ) (headers : List Header) : Type 0 where
  pub method_is : method ≡ h.method
  pub target_is : target ≡ chars h.target
  pub headers_are : headers ≡ headers_of (map name_and_value h.fields)

-- a message as the request that it is
abbrev pub IsRequest : Message → Request → Type 0
IsRequest m r = IsParts m.0 r.method r.target r.headers × (r.body.items ≡ m.1)
