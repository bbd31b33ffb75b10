-- What a connector over HTTP answers, and what it leaves of its dial.
use Rattle.std.specs.Prelude.{◌≡◌, ◌⊎◌, ℕ, List, [], ◌∷◌, ◌++◌, Bool, true, false, Option, Some, None, Result, Ok, Err, IfOk, IsErr}
use Rattle.swf_store.specs.Faults.{RoseOnce}
use Rattle.swf_calls.specs.Request.{Request}
use Rattle.swf_calls.specs.declared.method.Method.{Method}
use Rattle.swf_calls.specs.declared.method.Method.TheVariants as methods
use Rattle.swf_calls.specs.declared.reply.CallReply.{CallReply}
use Rattle.swf_calls.specs.declared.reply.CallReply.TheVariants.{Answer, Unreached}
use Rattle.swf_http.specs.declared.message.Request.{Request as Message}
use Rattle.swf_http.specs.declared.message.Response.{Response}
use Rattle.swf_http.specs.Sent.{request_bytes}
use Rattle.swf_connect.specs.declared.exchange.ExchangeFault.{ExchangeFault}
use Rattle.swf_connect.specs.declared.exchange.ExchangeFault.TheVariants.{Failed, NoResponse, OutOfMemory}
use Rattle.swf_connect.specs.Content.{content_of}
use Rattle.swf_connect.specs.Exchanges.{Begins, BeginsNone, AddsOne}
use Rattle.swf_connect.specs.Reaching.{Target, port_of, reached}
use Rattle.swf_connect.specs.Sending.{IsMessage}
use Rattle.swf_connect.specs.Talks.{Talk}

-- no body follows the head of a response to HEAD (RFC 9110, section 9.3.2)
abbrev pub is_head : Method → Bool
is_head methods.Head = true
is_head m = false

-- the answer that a response is
abbrev pub reply_for : Response → CallReply
reply_for r = Answer r.status r.headers (content_of r.headers r.body.items)

-- what is answered for an exchange
abbrev pub Follows : {E : Type 0} → Result Response ExchangeFault → Result CallReply E → Type 0
Follows (Ok response) result = IfOk result (λ reply. reply ≡ reply_for response)
Follows (Err OutOfMemory) result = IsErr result
Follows (Err Failed) result = result ≡ Ok Unreached
Follows (Err NoResponse) result = result ≡ Ok Unreached

-- the reply that the bytes of a link give
abbrev pub Gives : Bool → List ℕ → CallReply → Type 0
Gives head bytes (Answer status headers content) =
    (response : Response) × Begins head bytes response × (reply_for response ≡ Answer status headers content)
Gives head bytes Unreached = BeginsNone head bytes

-- one new talk, with the message for the request, and the reply that its bytes give
pub record IsCall (request : Request) (to : Target) (reply : CallReply) (before : List Talk) (new : Option (List Talk)) : Type 0 where
  pub message : Message
  pub is_message : IsMessage request to.url to.host message
  pub bytes : List ℕ
  pub gives : Gives (is_head request.method) bytes reply
  pub new_is : new ≡ Some (before ++ (record { about = record { host = to.host; port = port_of to.url; bytes = bytes }; written = request_bytes message }) ∷ [])

-- the talks have that call more, where they are told
abbrev pub Calls : Request → Target → CallReply → Option (List Talk) → Option (List Talk) → Type 0
Calls request to reply old new = (before : List Talk) → old ≡ Some before → IsCall request to reply before new

-- the talks have one more at most, where they are told
abbrev pub CallsOnce : Option (List Talk) → Option (List Talk) → Type 0
CallsOnce old new = (before : List Talk) → old ≡ Some before → AddsOne before new

-- how a request ends for one that is reached: nobody answers where a call of the dial or the link failed, or the bytes are no response
abbrev pub Ends : {E : Type 0} → Request → Target → Result CallReply E → (faults now : ℕ) → (old new : Option (List Talk)) → Type 0
Ends request to (Ok (Answer status headers content)) faults now old new =
    (now ≡ faults) × Calls request to (Answer status headers content) old new
Ends request to (Ok Unreached) faults now old new =
    (RoseOnce faults now × CallsOnce old new) ⊎ ((now ≡ faults) × Calls request to Unreached old new)
Ends request to (Err e) faults now old new = (now ≡ faults) × CallsOnce old new

-- nobody is dialed where none is reached
abbrev pub EndsUnreached : {E : Type 0} → Result CallReply E → Type 0
EndsUnreached (Ok (Answer status headers content)) = ⊥
EndsUnreached (Ok Unreached) = Unit {0}
EndsUnreached (Err e) = Unit {0}

abbrev pub EndsAt : {E : Type 0} → Request → Option Target → Result CallReply E → (faults now : ℕ) → (old new : Option (List Talk)) → Type 0
EndsAt request (Some to) result faults now old new = Ends request to result faults now old new
EndsAt request None result faults now old new = EndsUnreached result × (now ≡ faults) × (new ≡ old)

-- how a request ends, by the faults of the dial and its talks
abbrev pub Performs : {E : Type 0} → Request → Result CallReply E → (faults now : ℕ) → (old new : Option (List Talk)) → Type 0
Performs request result faults now old new = EndsAt request (reached request) result faults now old new

-- the count has risen by one exactly where nobody was reached
abbrev pub Counts : {E : Type 0} → Result CallReply E → ℕ → ℕ → Type 0
Counts (Ok (Answer status headers content)) before now = now ≡ before
Counts (Ok Unreached) before now = RoseOnce before now
Counts (Err e) before now = now ≡ before
