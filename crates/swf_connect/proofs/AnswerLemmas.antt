-- From an exchange to what a request comes to.
use Rattle.std.proofs.Common.{◌≡◌, ◌∙◌, sym, subst, refl, ap, ℕ, List, Bool, Option, Some, None, Result, Ok, Err, IfOk, IsErr, inl, inr}
use Rattle.std.specs.Str.{encode_utf8_all}
use Rattle.url.specs.declared.error.ParseError.{ParseError}
use Rattle.url.specs.Parts.{Parts}
use Rattle.url.specs.Parser.{parse_url}
use Rattle.swf_calls.specs.Request.{Request}
use Rattle.swf_calls.specs.declared.reply.CallReply.{CallReply}
use Rattle.swf_calls.specs.declared.reply.CallReply.TheVariants.{Unreached}
use Rattle.swf_http.specs.declared.message.Request.{Request as Message}
use Rattle.swf_http.specs.declared.message.Response.{Response}
use Rattle.swf_http.specs.Sent.{request_bytes}
use Rattle.swf_connect.specs.declared.exchange.ExchangeFault.{ExchangeFault}
use Rattle.swf_connect.specs.declared.exchange.ExchangeFault.TheVariants.{Failed, NoResponse, OutOfMemory}
use Rattle.swf_connect.specs.Answers.{Ends, EndsAt, Follows, Performs, is_head, reply_for}
use Rattle.swf_connect.specs.Exchanges.{Exchanges, FailsBy}
use Rattle.swf_connect.specs.Reaching.{Target, host_of, port_of, reached, reached_by, with_host}
use Rattle.swf_connect.specs.Sending.{IsMessage}
use Rattle.swf_connect.specs.Talks.{Talk}

-- ---- whom a request reaches

no_url : (request : Request) (uri : List ℕ) (e : ParseError) → uri ≡ request.uri → parse_url None (encode_utf8_all uri) ≡ Err e → reached request ≡ None
no_url request uri e same is =
    ap (λ (u : List ℕ). reached_by (parse_url None (encode_utf8_all u))) (sym same) ∙ ap reached_by is

no_host : (request : Request) (uri : List ℕ) (url : Parts) → uri ≡ request.uri → parse_url None (encode_utf8_all uri) ≡ Ok url → None ≡ host_of url → reached request ≡ None
no_host request uri url same is none =
    ap (λ (u : List ℕ). reached_by (parse_url None (encode_utf8_all u))) (sym same) ∙ ap reached_by is ∙ ap (with_host url) (sym none)

a_host : (request : Request) (uri : List ℕ) (url : Parts) (host : List ℕ) → uri ≡ request.uri → parse_url None (encode_utf8_all uri) ≡ Ok url → Some host ≡ host_of url
    → reached request ≡ Some (record { url = url; host = host })
a_host request uri url host same is some =
    ap (λ (u : List ℕ). reached_by (parse_url None (encode_utf8_all u))) (sym same) ∙ ap reached_by is ∙ ap (with_host url) (sym some)

-- ---- how a request ends

lacks_at : {E : Type 0} (request : Request) (e : E) (to : Option Target) (faults : ℕ) (talks : Option (List Talk)) → EndsAt request to (Err e) faults faults talks talks
lacks_at request e None faults talks = (tt, refl, refl)
lacks_at request e (Some to) faults talks = (refl, λ before told. inl told)

pub lacks : {E : Type 0} (request : Request) (e : E) (faults : ℕ) (talks : Option (List Talk)) → Performs request (Err e) faults faults talks talks
lacks request e faults talks = lacks_at request e (reached request) faults talks

pub unreached_url : (E : Type 0) (request : Request) (uri : List ℕ) (e : ParseError) (faults : ℕ) (talks : Option (List Talk)) → uri ≡ request.uri
    → parse_url None (encode_utf8_all uri) ≡ Err e → Performs {E = E} request (Ok Unreached) faults faults talks talks
unreached_url E request uri e faults talks same is =
    subst (λ (to : Option Target). EndsAt {E = E} request to (Ok Unreached) faults faults talks talks) (sym (no_url request uri e same is)) (tt, refl, refl)

pub unreached_host : (E : Type 0) (request : Request) (uri : List ℕ) (url : Parts) (faults : ℕ) (talks : Option (List Talk)) → uri ≡ request.uri
    → parse_url None (encode_utf8_all uri) ≡ Ok url → None ≡ host_of url → Performs {E = E} request (Ok Unreached) faults faults talks talks
unreached_host E request uri url faults talks same is none =
    subst (λ (to : Option Target). EndsAt {E = E} request to (Ok Unreached) faults faults talks talks) (sym (no_host request uri url same is none)) (tt, refl, refl)

pub reached_host : {E : Type 0} (request : Request) (uri : List ℕ) (url : Parts) (host : List ℕ) (result : Result CallReply E) (faults now : ℕ) (old new : Option (List Talk))
    → uri ≡ request.uri → parse_url None (encode_utf8_all uri) ≡ Ok url → Some host ≡ host_of url
    → Ends request (record { url = url; host = host }) result faults now old new → Performs request result faults now old new
reached_host request uri url host result faults now old new same is some ends =
    subst (λ (to : Option Target). EndsAt request to result faults now old new) (sym (a_host request uri url host same is some)) ends

-- what is known of an exchange for a request
abbrev pub IsFor : Request → Target → Message → Bool → ℕ → Type 0
IsFor request to message head port = IsMessage request to.url to.host message × (head ≡ is_head request.method) × (port ≡ port_of to.url)

ends_answered : {E : Type 0} (request : Request) (to : Target) (message : Message) (head : Bool) (port : ℕ) (response : Response) (result : Result CallReply E)
    (faults now : ℕ) (old new : Option (List Talk)) → IsFor request to message head port → FailsBy (Ok response) faults now
    → Exchanges to.host port (request_bytes message) head (Ok response) old new → IfOk result (λ reply. reply ≡ reply_for response)
    → Ends request to result faults now old new
ends_answered {E = E} request to message head port response (Ok reply) faults now old new is fails adds given =
    subst (λ (r : CallReply). Ends {E = E} request to (Ok r) faults now old new) (sym given) (
      fails,
      λ before told.
          let a = subst (λ (p : ℕ). Exchanges to.host p (request_bytes message) head (Ok response) old new) is.2 adds in
          let b = subst (λ (h : Bool). Exchanges to.host (port_of to.url) (request_bytes message) h (Ok response) old new) is.1 a in
          let c = b before told in
          record { message = message; is_message = is.0; bytes = c.bytes; gives = (response, c.tells, refl); new_is = c.new_is },
    )
ends_answered request to message head port response (Err e) faults now old new is fails adds given =
    (fails, λ before told. let c = adds before told in inr (_, c.new_is))

ends_lacking : {E : Type 0} (request : Request) (to : Target) (host : List ℕ) (port : ℕ) (bytes : List ℕ) (head : Bool) (result : Result CallReply E) (faults now : ℕ) (old new : Option (List Talk))
    → FailsBy {T = Response} (Err OutOfMemory) faults now → Exchanges host port bytes head (Err OutOfMemory) old new → IsErr result → Ends request to result faults now old new
ends_lacking request to host port bytes head (Ok reply) faults now old new fails adds is = let no : ⊥ = cc in absurd no
ends_lacking request to host port bytes head (Err e) faults now old new fails adds is = (fails, adds)

ends_refused : (E : Type 0) (request : Request) (to : Target) (message : Message) (head : Bool) (port : ℕ) (faults now : ℕ) (old new : Option (List Talk))
    → IsFor request to message head port → FailsBy {T = Response} (Err NoResponse) faults now
    → Exchanges to.host port (request_bytes message) head (Err NoResponse) old new → Ends {E = E} request to (Ok Unreached) faults now old new
ends_refused E request to message head port faults now old new is fails adds = inr (
  fails,
  λ before told.
      let a = subst (λ (p : ℕ). Exchanges to.host p (request_bytes message) head (Err NoResponse) old new) is.2 adds in
      let b = subst (λ (h : Bool). Exchanges to.host (port_of to.url) (request_bytes message) h (Err NoResponse) old new) is.1 a in
      let c = b before told in
      record { message = message; is_message = is.0; bytes = c.bytes; gives = c.tells; new_is = c.new_is },
)

pub ends_all : {E : Type 0} (request : Request) (to : Target) (message : Message) (head : Bool) (port : ℕ) (exchanged : Result Response ExchangeFault) (result : Result CallReply E)
    (faults now : ℕ) (old new : Option (List Talk)) → IsFor request to message head port → FailsBy exchanged faults now
    → Exchanges to.host port (request_bytes message) head exchanged old new → Follows exchanged result
    → Ends request to result faults now old new
ends_all request to message head port (Ok response) result faults now old new is fails adds given =
    ends_answered request to message head port response result faults now old new is fails adds given
ends_all request to message head port (Err OutOfMemory) result faults now old new is fails adds given =
    ends_lacking request to to.host port (request_bytes message) head result faults now old new fails adds given
ends_all {E} request to message head port (Err Failed) result faults now old new is fails adds given =
    subst (λ (r : Result CallReply E). Ends request to r faults now old new) (sym given) (inl (fails, adds))
ends_all {E} request to message head port (Err NoResponse) result faults now old new is fails adds given =
    subst (λ (r : Result CallReply E). Ends request to r faults now old new) (sym given)
    (ends_refused E request to message head port faults now old new is fails adds)
