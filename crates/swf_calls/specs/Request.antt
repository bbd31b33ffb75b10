-- A request that waits for its answer, and the value that tells it (DSL reference, "HTTP Call"; RFC 9110, sections 5 and 9).
use Rattle.std.specs.Prelude.{◌==◌, ◌&&◌, ◌||◌, ℕ, List, [], ◌∷◌, Bool, false, not, codes, nat_le, nat_lt, length, reverse, Option, Some, None}
use Rattle.std.specs.Char.{is_ascii_alphanumeric}
use Rattle.std.specs.Coded.{Coded, codes as codes_of}
use Rattle.swf_value.specs.ValueCode.{value_code}
use Rattle.std.specs.List.{list_all, list_any}
use Rattle.swf_value.specs.Value.{Value, text, object, Members, no_members, member}
use Rattle.swf_calls.specs.Headers.{header_members}
use Rattle.swf_calls.specs.declared.headers.Header.{Header}
use Rattle.swf_calls.specs.declared.method.Method.{Method}
use Rattle.swf_calls.specs.declared.method.Method.TheVariants as methods

pub record Request : Type 0 where
  pub method : Method
  pub uri : List ℕ
  pub headers : List Header
  pub body : Option Value

abbrev pub method_name : Method → List ℕ
method_name methods.Get = codes "GET"
method_name methods.Head = codes "HEAD"
method_name methods.Post = codes "POST"
method_name methods.Put = codes "PUT"
method_name methods.Delete = codes "DELETE"
method_name methods.Patch = codes "PATCH"
method_name methods.Options = codes "OPTIONS"

-- a body stands there where there is one
abbrev pub with_body : Option Value → Members → Members
with_body None ms = ms
with_body (Some v) ms = member (codes "body") v ms

-- what stands beside the body
abbrev pub head_members : Request → Members
head_members r = member (codes "headers") (object (header_members r.headers)) (member (codes "method") (text (method_name r.method)) (member (codes "uri") (text r.uri) no_members))

-- a request without its body, `{"headers":{..},"method":M,"uri":U}`
abbrev pub head_value : Request → Value
head_value r = object (head_members r)

-- `{"body":..,"headers":{..},"method":M,"uri":U}`
abbrev pub request_value : Request → Value
request_value r = object (with_body r.body (head_members r))

pub request_code : Coded Request
request_code = hlevel (codes_of, value_code)

-- a character of a name (RFC 9110, section 5.6.2)
abbrev pub is_name_character : ℕ → Bool
is_name_character c = is_ascii_alphanumeric c || list_any (λ d. d == c) (codes "!#$%&'*+-.^_`|~")

abbrev pub is_field_name : List ℕ → Bool
is_field_name t = nat_lt 0 (length t) && list_all is_name_character t

-- ASCII that is no control and no space
abbrev pub is_visible : ℕ → Bool
is_visible c = nat_le 33 c && nat_le c 126

abbrev pub is_blank : ℕ → Bool
is_blank c = c == 32 || c == 9

abbrev pub begins_blank : List ℕ → Bool
begins_blank [] = false
begins_blank (c ∷ cs) = is_blank c

-- visible characters, with spaces and tabs between them (RFC 9110, section 5.5)
abbrev pub is_field_value : List ℕ → Bool
is_field_value t = list_all (λ c. is_visible c || is_blank c) t && not (begins_blank t) && not (begins_blank (reverse t))

-- a header, and headers, that can be sent
abbrev pub is_sendable : Header → Bool
is_sendable h = is_field_name h.name && is_field_value h.value

abbrev pub are_sendable : List Header → Bool
are_sendable hs = list_all is_sendable hs
