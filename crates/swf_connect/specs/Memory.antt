-- A connector in memory: the replies that are left, the requests that fail, and those that were asked.
use Rattle.std.specs.Prelude.{ℕ, List, [], ◌∷◌, ◌++◌, Bool, true, false, length, drop, filter, Option, Some, None, if◌then◌else◌}
use Rattle.swf_calls.specs.Request.{Request}
use Rattle.swf_calls.specs.declared.reply.CallReply.{CallReply}
use Rattle.swf_calls.specs.declared.reply.CallReply.TheVariants.{Answer, Unreached}
use Rattle.swf_store.specs.Replay.{is_in}
use Rattle.swf_connect.specs.declared.asked.Asked.{Asked}

pub record Memory : Type 0 where
  pub scheme : List ℕ
  pub left : List CallReply
  -- the numbers of the requests that reach nobody
  pub failing : List ℕ
  pub asked : List Asked

-- nobody was reached
abbrev pub is_unreached : Option CallReply → Bool
is_unreached (Some Unreached) = true
is_unreached (Some (Answer status headers content)) = false
is_unreached None = false

-- how many requests reached nobody
abbrev pub unreached_in : List Asked → ℕ
unreached_in asked = length (filter (λ a. is_unreached a.reply) asked)

abbrev pub first_of : List CallReply → CallReply
first_of [] = Unreached
first_of (reply ∷ replies) = reply

-- what the next request is answered: the first reply that is left, unless its number is on the list
abbrev pub next_reply : Memory → CallReply
next_reply memory = if is_in memory.failing (length memory.asked) then Unreached else first_of memory.left

-- an answer uses up a reply
abbrev pub answer_count : CallReply → ℕ
answer_count (Answer status headers content) = 1
answer_count Unreached = 0

-- a request more, which was answered so
abbrev pub after_reply : Request → CallReply → Memory → Memory
after_reply request reply memory = record memory {
  left = drop (answer_count reply) memory.left;
  asked = memory.asked ++ (record { request = request; reply = Some reply }) ∷ [];
}
