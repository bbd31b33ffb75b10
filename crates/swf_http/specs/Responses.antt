-- Whole responses.
use Rattle.std.specs.Prelude.{◌≡◌, ℕ, suc, zero, ◌-◌, length, Bool, List, [], map}
use Rattle.httparse.specs.Grammar.{ResponseHead, print_response, status_code}
use Rattle.httparse.specs.Spans.{name_and_value}
use Rattle.http1.specs.declared.framing.Framing.{Framing}
use Rattle.http1.specs.declared.framing.Framing.TheVariants.{NoBody, Length, Chunked, UntilClose}
use Rattle.swf_http.specs.declared.follow.Follow.{Follow}
use Rattle.swf_http.specs.declared.follow.Follow.TheVariants.{Bad, TooLong, Interim, Body}
use Rattle.swf_http.specs.declared.message.Response.{Response}
use Rattle.swf_http.specs.Limits.{most_head, most_lines}
use Rattle.swf_http.specs.Verdicts.{Verdict, whole, long, bad, Then}
use Rattle.swf_http.specs.Pieces.{response_form, SaysPiece}
use Rattle.swf_http.specs.Following.{follow_of}
use Rattle.swf_http.specs.Fields.{headers_of}
use Rattle.swf_http.specs.Bodies.{body_of, rest_of}
use Rattle.swf_http.specs.Chunks.{SaysChunked}

-- a head, and how its body is framed
abbrev pub Framed : Type 0
Framed = ResponseHead × Framing

-- what the last head that is read comes to
abbrev pub Follows : Follow → ResponseHead → List ℕ → Verdict Framed → Type 0
Follows Bad h rest v = v ≡ bad
Follows TooLong h rest v = v ≡ long
Follows Interim h rest v = ⊥
Follows (Body framing) h rest v = v ≡ whole (h, framing) rest

-- what bytes say of a head behind so many others, which are read past and take of its room
abbrev pub SaysHeadAfter : ℕ → Bool → ℕ → List ℕ → Verdict Framed → Type 0
SaysHeadAfter zero head room bytes v = Then (SaysPiece response_form room) (λ h. Follows (follow_of head h) h) bytes v
SaysHeadAfter (suc n) head room bytes v =
    (h : ResponseHead) × (rest : List ℕ) × SaysPiece response_form room bytes (whole h rest) × (follow_of head h ≡ Interim)
    × SaysHeadAfter n head (room - length (print_response h)) rest v

-- what bytes say of the head of a response
abbrev pub SaysHead : Bool → ℕ → List ℕ → Verdict Framed → Type 0
SaysHead head room bytes v = (n : ℕ) × SaysHeadAfter n head room bytes v

-- what bytes say of a body, by its framing
abbrev pub SaysBody : Framing → List ℕ → Verdict (List ℕ) → Type 0
SaysBody NoBody bytes v = v ≡ whole [] bytes
SaysBody (Length n) bytes v = v ≡ body_of n bytes
SaysBody Chunked bytes v = SaysChunked [] most_lines bytes v
SaysBody UntilClose bytes v = v ≡ rest_of bytes

-- what bytes say of a response; `head` says that no body follows
abbrev pub SaysResponse : Bool → List ℕ → Verdict (ResponseHead × List ℕ) → Type 0
SaysResponse head bytes v =
    Then (SaysHead head most_head) (λ f. Then (SaysBody f.1) (λ body after w. w ≡ whole (f.0, body) after)) bytes v

-- a head and a body as the response that they are
pub record IsResponse (m : ResponseHead × List ℕ) (r : Response) : Type 0 where
  pub status_is : r.status ≡ status_code m.0
  pub headers_are : r.headers ≡ headers_of (map name_and_value m.0.fields)
  pub body_is : r.body.items ≡ m.1
