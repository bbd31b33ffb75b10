-- The requests that a connector performed, and what it may answer.
use Rattle.std.specs.Prelude.{◌≡◌, ◌⊎◌, ℕ, ◌<◌, ◌≤◌, ◌^◌, List, [], ◌∷◌, ◌++◌, length, IsTrue, Option, Some, None, option_map, Result, Ok, Err, ⊤}
use Rattle.swf_value.specs.Value.{Value, depth}
use Rattle.swf_value.specs.Written.{written}
use Rattle.swf_calls.specs.Request.{Request}
use Rattle.swf_calls.specs.Reply.{is_status, reply_value}
use Rattle.swf_calls.specs.declared.headers.Header.{Header}
use Rattle.swf_calls.specs.declared.reply.CallReply.{CallReply}
use Rattle.swf_calls.specs.declared.reply.CallReply.TheVariants.{Answer, Unreached}
use Rattle.swf_store.specs.Faults.{Rose}
use Rattle.swf_connect.specs.declared.asked.Asked.{Asked}

-- one request more, with the reply that was answered, if one was
abbrev pub and_asked : Request → Option CallReply → Option (List Asked) → Option (List Asked)
and_asked request reply asked = option_map (λ before. before ++ (record { request = request; reply = reply }) ∷ []) asked

-- after a request was performed it is listed with its reply; where memory was missing it may be listed, without one
abbrev pub AfterAsked : {E : Type 0} → Request → Result CallReply E → Option (List Asked) → Option (List Asked) → Type 0
AfterAsked request (Ok reply) old new = new ≡ and_asked request (Some reply) old
AfterAsked request (Err e) old new = (new ≡ old) ⊎ (new ≡ and_asked request None old)

-- the count never falls, and has risen where nobody was reached
abbrev pub UnreachedBy : {E : Type 0} → Result CallReply E → ℕ → ℕ → Type 0
UnreachedBy (Ok (Answer status headers content)) before now = before ≤ now
UnreachedBy (Ok Unreached) before now = (before ≤ now) × Rose before now
UnreachedBy (Err e) before now = before ≤ now

-- an answer that a journal can hold: a status from 100 to 599, content that nests at most 64 deep, and a value of fewer than 2^32 bytes
pub record IsTellable (status : ℕ) (headers : List Header) (content : Value) : Type 0 where
  pub status_is : IsTrue (is_status status)
  pub shallow : depth content ≤ 64
  pub short : length (written (reply_value (Answer status headers content))) < 2 ^ 32

-- an answer is one of these
abbrev pub IsTellableReply : CallReply → Type 0
IsTellableReply (Answer status headers content) = IsTellable status headers content
IsTellableReply Unreached = ⊤

-- it is an answer, and one of these
abbrev pub IsTellableAnswer : CallReply → Type 0
IsTellableAnswer (Answer status headers content) = IsTellable status headers content
IsTellableAnswer Unreached = ⊥
