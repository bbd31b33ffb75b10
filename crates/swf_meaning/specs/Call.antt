-- `call: http`: a request is sent, and its answer awaited (DSL reference, "HTTP Call"; DSL, "Runtime").
use Rattle.std.specs.Prelude.{◌∷◌, ◌&&◌, ℕ, pos, List, [], Bool, true, false, codes, nat_le, Option, Some, None, Result, Ok, Err, if◌then◌else◌}
use Rattle.std.specs.Fmt.{signed_decimal}
use Rattle.swf_value.specs.Members.{put}
use Rattle.swf_value.specs.Value.{Value, null, boolean, int, text, list, object, Members, no_members, member}
use Rattle.swf_calls.specs.Headers.{header_members, with_field}
use Rattle.swf_calls.specs.Request.{Request, are_sendable, head_value, is_sendable}
use Rattle.swf_calls.specs.declared.headers.Header.{Header}
use Rattle.swf_calls.specs.declared.reply.CallReply.{CallReply}
use Rattle.swf_calls.specs.declared.reply.CallReply.TheVariants as replies
use Rattle.swf_expr.specs.Expr.{Tree}
use Rattle.swf_evaluation.specs.declared.vars.Variable.{Variable}
use Rattle.swf_document.specs.Errors.{standard}
use Rattle.swf_document.specs.Task.{Task}
use Rattle.swf_document.specs.Template.{Template}
use Rattle.swf_document.specs.declared.call.Endpoint.{Endpoint}
use Rattle.swf_document.specs.declared.call.Endpoint.TheVariants as endpoints
use Rattle.swf_document.specs.declared.call.HttpSpec.{HttpSpec}
use Rattle.swf_document.specs.declared.error.ErrorKind.TheVariants as kinds
use Rattle.swf_document.specs.declared.error.Problem.{Problem}
use Rattle.swf_document.specs.declared.template.Field.{Field}
use Rattle.swf_templates.specs.Fill.{fill, first_of}
use Rattle.swf_templates.specs.Uris.{uri_of, with_query}
use Rattle.swf_meaning.specs.Complete.{Stepped, becomes, complete}
use Rattle.swf_meaning.specs.Emit.{next_id}
use Rattle.swf_meaning.specs.Line.{Line, Site, within}
use Rattle.swf_meaning.specs.Node.{Live, Await, Running}
use Rattle.swf_meaning.specs.Parts.{http_in, kind_of, place_of}
use Rattle.swf_meaning.specs.Rule.{◌>>=◌, fails, value_of}

-- the values of templates by their names
abbrev pub filled_members : Task → List Variable → Value → List Field → Members → Result Members Problem
filled_members t vars u [] ms = Ok ms
filled_members t vars u (f ∷ fs) ms = do
  w ← value_of t (fill f.value vars u)
  filled_members t vars u fs (put f.name w ms)

-- an expression has to give a text
abbrev pub uri_text : Task → Value → Result (List ℕ) Problem
uri_text t (text x) = Ok x
uri_text t v = fails t kinds.Expression (codes "cannot expand")

-- the URI that an expression gives, with that query
abbrev pub uri_run : Task → List Variable → Value → Members → Tree → Result (List ℕ) Problem
uri_run t vars u query e = do
  v ← value_of t (first_of e vars u)
  x ← uri_text t v
  value_of t (with_query x query)

-- the URI of an endpoint with that query
abbrev pub uri_by : Task → List Variable → Value → Members → Endpoint → Result (List ℕ) Problem
uri_by t vars u query (endpoints.Pattern p) = value_of t (uri_of p query u)
uri_by t vars u query (endpoints.Run e) = uri_run t vars u query e
uri_by t vars u query (endpoints.Uri e) = uri_run t vars u query e

-- a header's value is a text, a number or a Boolean
abbrev pub header_text : Task → Value → Result (List ℕ) Problem
header_text t null = fails t kinds.Expression (codes "cannot expand")
header_text t (boolean b) = Ok (if b then codes "true" else codes "false")
header_text t (int z) = Ok (signed_decimal z)
header_text t (text x) = Ok x
header_text t (list ds) = fails t kinds.Expression (codes "cannot expand")
header_text t (object ms) = fails t kinds.Expression (codes "cannot expand")

-- what can be sent
abbrev pub or_unsendable : {A : Type 0} → Task → Bool → A → Result A Problem
or_unsendable t true a = Ok a
or_unsendable t false a = fails t kinds.Expression (codes "cannot expand")

-- a header that is filled, and then judged
abbrev pub one_header : Task → List Variable → Value → Field → Result Header Problem
one_header t vars u f = do
  w ← value_of t (fill f.value vars u)
  x ← header_text t w
  or_unsendable t (is_sendable (record { name = f.name; value = x })) (record { name = f.name; value = x })

-- headers by ascending name, each put beside those before it
abbrev pub headers_by : Task → List Variable → Value → List Field → List Header → Result (List Header) Problem
headers_by t vars u [] hs = Ok hs
headers_by t vars u (f ∷ fs) hs = do
  h ← one_header t vars u f
  headers_by t vars u fs (with_field h hs)

-- headers that can be sent
abbrev pub sent_headers : Task → List Variable → Value → List Field → Result (List Header) Problem
sent_headers t vars u fs = do
  hs ← headers_by t vars u fs []
  or_unsendable t (are_sendable hs) hs

abbrev pub body_by : Task → List Variable → Value → Option Template → Result (Option Value) Problem
body_by t vars u None = Ok None
body_by t vars u (Some e) = do
  v ← value_of t (fill e vars u)
  Ok (Some v)

-- the request: the values of the query, the endpoint and then the query's kinds, the headers, and the body
abbrev pub requested : Line → Running → HttpSpec → Result Request Problem
requested l r h = do
  query ← filled_members r.task (within l r) r.input h.query no_members
  uri ← uri_by r.task (within l r) r.input query h.endpoint
  headers ← sent_headers r.task (within l r) r.input h.headers
  body ← body_by r.task (within l r) r.input h.body
  Ok (record { method = h.method; uri = uri; headers = headers; body = body })

-- the call is an activity of the instance, which uses a number
abbrev pub awaits : Site → Line → Running → Request → Stepped
awaits s l r q = record (becomes l (Live r (Await (next_id s l) q None))) { used = 1 }

abbrev pub calling_http : Site → Line → Running → HttpSpec → Result Stepped Problem
calling_http s l r h = do
  q ← requested l r h
  Ok (awaits s l r q)

-- a status that is no error: one of success, and one that leads on where the call says so
abbrev pub is_answered : Bool → ℕ → Bool
is_answered redirect status = nat_le 200 status && nat_le status (if redirect then 399 else 299)

-- what a call gives: the content, or the whole response
abbrev pub response_value : Bool → Request → ℕ → List Header → Value → Value
response_value false q status headers content = content
response_value true q status headers content =
    object (member (codes "content") content (member (codes "headers") (object (header_members headers)) (member (codes "request") (head_value q) (member (codes "statusCode") (int (pos status)) no_members))))

-- a communication error with a status of its own
abbrev pub communication : {A : Type 0} → Task → ℕ → Option (List ℕ) → Result A Problem
communication t status detail = Err (record (standard kinds.Communication (place_of t) []) { status = status; detail = detail })

-- what comes of an answer
abbrev pub answered : Line → Running → HttpSpec → Request → CallReply → Result Stepped Problem
answered l r h q (replies.Answer status headers content) =
    if is_answered h.redirect status then complete l r (response_value h.response q status headers content) else communication r.task status None
answered l r h q replies.Unreached = communication r.task 500 (Some (codes "unreached"))

-- only a `call: http` awaits an answer
abbrev pub answered_by : Line → Running → Request → CallReply → Option HttpSpec → Result Stepped Problem
answered_by l r q p None = complete l r r.input
answered_by l r q p (Some h) = answered l r h q p

-- Wake: a call that was answered is complete, or in its error
abbrev pub replied : Line → Running → Request → Option CallReply → Option (Result Stepped Problem)
replied l r q None = None
replied l r q (Some p) = Some (answered_by l r q p (http_in (kind_of r.task)))
