-- The bytes of a message that is sent (RFC 9112, sections 2 to 6), and what may be sent.
use Rattle.std.specs.Prelude.{◌≡◌, ◌≢◌, ℕ, ◌<◌, ◌≤◌, Bool, false, ◌&&◌, ◌||◌, nat_le, List, ◌++◌, length, codes, decimal, unwrap_or, All, [], Result, Ok, Err, Option, Some}
use Rattle.std.specs.List.{flat_map}
use Rattle.httparse.specs.Ascii.{crlf_bytes}
use Rattle.httparse.specs.Grammar.{AllPass, IsToken, is_ows, trim_ows}
use Rattle.http.specs.StatusCode.{code_digits, reason_phrase}
use Rattle.http1.specs.Text.{eq_ignore_case}
use Rattle.swf_calls.specs.declared.headers.Header.{Header}
use Rattle.swf_http.specs.declared.message.Request.{Request}
use Rattle.swf_http.specs.declared.message.Response.{Response}
use Rattle.swf_http.specs.declared.fault.SendFault.{SendFault}
use Rattle.swf_http.specs.declared.fault.SendFault.TheVariants.{Write, OutOfMemory}
use Rattle.swf_http.specs.Sinks.{WrotePart}
use Rattle.swf_store.specs.Faults.{RoseOnce}

-- a header as a line of a head
abbrev pub header_line : Header → List ℕ
header_line h = h.name ++ codes ": " ++ h.value ++ crlf_bytes

abbrev pub request_bytes : Request → List ℕ
request_bytes r =
    r.method ++ codes " " ++ r.target ++ codes " HTTP/1.1" ++ crlf_bytes
    ++ flat_map header_line r.headers ++ crlf_bytes ++ r.body.items

-- the first line of a response; the phrase is empty where none is known
unfoldable pub status_line : ℕ → List ℕ
status_line status = codes "HTTP/1.1 " ++ code_digits status ++ codes " " ++ unwrap_or (reason_phrase status) [] ++ crlf_bytes

abbrev pub response_bytes : Response → List ℕ
response_bytes r =
    status_line r.status ++ flat_map header_line r.headers
    ++ codes "Content-Length: " ++ decimal (length r.body.items)
    ++ (crlf_bytes ++ codes "Connection: close" ++ crlf_bytes ++ crlf_bytes) ++ r.body.items

-- a byte that shows: ASCII that is no control and no space
abbrev pub is_visible : ℕ → Bool
is_visible b = nat_le 33 b && nat_le b 126

-- visible bytes, with spaces and tabs between them
pub record IsPlain (value : List ℕ) : Type 0 where
  pub bytes : AllPass (λ b. is_visible b || is_ows b) value
  pub trimmed : trim_ows value ≡ value

-- a header that may be sent
pub record IsSendable (h : Header) : Type 0 where
  pub name : IsToken h.name
  pub value : IsPlain h.value

pub record IsSendableRequest (r : Request) : Type 0 where
  pub method : IsToken r.method
  pub some_target : 0 < length r.target
  pub target : AllPass is_visible r.target
  pub headers : All IsSendable r.headers

-- a header that `write_response` does not write itself
abbrev pub IsOther : Header → Type 0
IsOther h =
    (eq_ignore_case h.name (codes "content-length") ≡ false)
    × (eq_ignore_case h.name (codes "connection") ≡ false)
    × (eq_ignore_case h.name (codes "transfer-encoding") ≡ false)

-- from 200 to 599, and not one that has no body
pub record IsSendableStatus (status : ℕ) : Type 0 where
  pub least : 200 ≤ status
  pub most : status ≤ 599
  pub content : status ≢ 204
  pub changed : status ≢ 304

pub record IsSendableResponse (r : Response) : Type 0 where
  pub status : IsSendableStatus r.status
  pub headers : All IsSendable r.headers
  pub others : All IsOther r.headers

-- after a message was to be sent: all of its bytes, a first part of them after a failure, or none
abbrev pub AfterSend : {T : Type 0} → List ℕ → Result T SendFault → Option (List ℕ) → Option (List ℕ) → Type 0
AfterSend bytes (Ok x) old new = (before : List ℕ) → old ≡ Some before → new ≡ Some (before ++ bytes)
AfterSend bytes (Err Write) old new =
    (before : List ℕ) → old ≡ Some before → (after : List ℕ) × (new ≡ Some after) × WrotePart bytes before after
AfterSend bytes (Err OutOfMemory) old new = new ≡ old

-- the count has risen by one exactly where a write failed
abbrev pub SendCause : {T : Type 0} → Result T SendFault → ℕ → ℕ → Type 0
SendCause (Ok x) before now = now ≡ before
SendCause (Err Write) before now = RoseOnce before now
SendCause (Err OutOfMemory) before now = now ≡ before
