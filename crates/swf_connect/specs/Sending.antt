-- The message that is sent for a request (RFC 9110, sections 7.2, 7.6.1, 8.3 and 8.6; RFC 9112, section 3.2.1; RFC 3986, section 3).
use Rattle.std.specs.Prelude.{◌≡◌, ℕ, List, [], ◌∷◌, ◌++◌, Bool, true, false, ◌&&◌, ◌||◌, not, codes, decimal, length, fold, filter, Option, Some, None, if◌then◌else◌}
use Rattle.std.specs.List.{list_any}
use Rattle.std.specs.Str.{encode_utf8_all}
use Rattle.http1.specs.Text.{eq_ignore_case}
use Rattle.url.specs.Input.{is_empty}
use Rattle.url.specs.Parts.{Parts}
use Rattle.swf_value.specs.Value.{Value, text}
use Rattle.swf_value.specs.Written.{written}
use Rattle.swf_calls.specs.Headers.{put_field}
use Rattle.swf_calls.specs.Request.{Request, method_name}
use Rattle.swf_calls.specs.declared.headers.Header.{Header}
use Rattle.swf_http.specs.declared.message.Request.{Request as Message}

-- ---- the target

abbrev pub path_part : List ℕ → List ℕ
path_part path = if is_empty path then codes "/" else path

abbrev pub query_part : Option (List ℕ) → List ℕ
query_part None = []
query_part (Some query) = codes "?" ++ query

-- the path, and `?` and the query where the URL has one
abbrev pub origin_form : Parts → List ℕ
origin_form url = path_part url.path ++ query_part url.query

-- ---- the body

-- a text as it is, any other value as JSON
abbrev pub body_of : Option Value → List ℕ
body_of None = []
body_of (Some (text t)) = encode_utf8_all t
body_of (Some v) = written v

-- ---- the headers

abbrev pub port_part : Option ℕ → List ℕ
port_part None = []
port_part (Some port) = codes ":" ++ decimal port

-- the host, and `:` and the port where the URL gives one
abbrev pub host_value : List ℕ → Option ℕ → List ℕ
host_value host port = host ++ port_part port

-- the header has this name, in any case of letters
abbrev pub is_named : List ℕ → Header → Bool
is_named name h = eq_ignore_case (encode_utf8_all h.name) name

-- those that the connector writes itself, and one that it never writes
abbrev pub is_withheld : Header → Bool
is_withheld h =
    is_named (codes "host") h || is_named (codes "content-length") h || is_named (codes "connection") h || is_named (codes "transfer-encoding") h

-- what is sent of the headers that are given
abbrev pub passed_headers : List Header → List Header
passed_headers given = filter (λ h. not (is_withheld h)) given

-- the body is sent as JSON
abbrev pub is_json_body : Option Value → Bool
is_json_body None = false
is_json_body (Some (text t)) = false
is_json_body (Some v) = true

-- the type of a body that is sent as JSON, unless one is given
abbrev pub type_headers : Option Value → List Header → List Header
type_headers body given =
    if is_json_body body && not (list_any (is_named (codes "content-type")) given)
    then (record { name = codes "Content-Type"; value = codes "application/json" }) ∷ []
    else []

abbrev pub own_headers : ℕ → List ℕ → List Header
own_headers size host =
    (record { name = codes "Connection"; value = codes "close" })
    ∷ (record { name = codes "Content-Length"; value = decimal size })
    ∷ (record { name = codes "Host"; value = host }) ∷ []

-- fields put among headers, one after another
abbrev pub put_fields : List Header → List Header → List Header
put_fields fields headers = fold (λ hs field. put_field field hs) headers fields

-- the headers for a body of so many bytes, by ascending name
abbrev pub sent_headers : Request → List ℕ → ℕ → List Header
sent_headers request host size =
    put_fields (own_headers size host) (put_fields (type_headers request.body request.headers) (put_fields (passed_headers request.headers) []))

-- the message for a request to a URL with this host
pub record IsMessage (request : Request) (url : Parts) (host : List ℕ) (message : Message) : Type 0 where
  pub method_is : message.method ≡ method_name request.method
  pub target_is : message.target ≡ origin_form url
  pub headers_are : message.headers ≡ sent_headers request (host_value host url.port) (length message.body.items)
  pub body_is : message.body.items ≡ body_of request.body
