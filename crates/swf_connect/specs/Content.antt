-- The content of a response as a value, by its type (RFC 9110, sections 6.4 and 8.3.1; RFC 6839, section 3.1; RFC 4648, section 4).
use Rattle.std.specs.Prelude.{ℕ, List, [], ◌∷◌, Bool, ◌||◌, ◌&&◌, ◌==◌, ◌-◌, codes, chars, drop, length, Option, Some, None, Result, Ok, Err, if◌then◌else◌}
use Rattle.std.specs.List.{before_first, list_any}
use Rattle.std.specs.Str.{encode_utf8_all, is_utf8}
use Rattle.base64.specs.GeneralPurpose.{encode_of}
use Rattle.base64.specs.Engines.{standard}
use Rattle.httparse.specs.Grammar.{trim_ows}
use Rattle.http1.specs.Text.{eq_ignore_case}
use Rattle.swf_text.specs.Same.{same}
use Rattle.swf_value.specs.Value.{Value, null, text}
use Rattle.swf_value.specs.Read.{read_within}
use Rattle.swf_value.specs.declared.fault.ValueFault.{ValueFault}
use Rattle.swf_calls.specs.declared.headers.Header.{Header}

-- a type without its parameters, and without blanks around it
abbrev pub media_type : List ℕ → List ℕ
media_type value = trim_ows (before_first (λ b. b == 59) value)

-- it is JSON, or has that syntax, in any case of letters
abbrev pub is_json_type : List ℕ → Bool
is_json_type type = eq_ignore_case type (codes "application/json") || eq_ignore_case (drop (length type - 5) type) (codes "+json")

-- the header tells that the content is JSON
abbrev pub tells_json : Header → Bool
tells_json h = same h.name (codes "content-type") && is_json_type (media_type (encode_utf8_all h.value))

-- bytes as a text, else as their base64
abbrev pub plain_content : List ℕ → Value
plain_content bytes = text (chars (if is_utf8 bytes then bytes else encode_of standard bytes))

abbrev pub value_read : Result Value ValueFault → Option Value
value_read (Ok v) = Some v
value_read (Err e) = None

-- the value that bytes are, where the headers tell that they are JSON
abbrev pub json_content : List Header → List ℕ → Option Value
json_content headers bytes = if list_any tells_json headers then value_read (read_within 64 bytes) else None

abbrev pub or_plain : Option Value → List ℕ → Value
or_plain (Some v) bytes = v
or_plain None bytes = plain_content bytes

-- the content of a message with these headers and this body
abbrev pub content_of : List Header → List ℕ → Value
content_of headers [] = null
content_of headers (b ∷ bytes) = or_plain (json_content headers (b ∷ bytes)) (b ∷ bytes)
