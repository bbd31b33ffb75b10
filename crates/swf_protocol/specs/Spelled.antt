-- The line that a command is written as, and what each command has that a line spells.
use Rattle.std.specs.Prelude.{◌≡◌, ◌≤◌, ◌<◌, ◌^◌, ℕ, List, [], ◌∷◌, true, codes, Some, None, Ok}
use Rattle.std.specs.Fmt.{decimal}
use Rattle.std.specs.Str.{encode_utf8_all, all_scalars}
use Rattle.swf_value.specs.Value.{Value, IsValue, depth}
use Rattle.swf_value.specs.Written.{written}
use Rattle.swf_calls.specs.Reply.{IsInRange, reply_value}
use Rattle.swf_calls.specs.declared.reply.CallReply.{CallReply}
use Rattle.swf_cloudevents.specs.Event.{event_of, event_value}
use Rattle.swf_cloudevents.specs.declared.event.Event.{Event as TheEvent}
use Rattle.swf_meaning.specs.declared.label.Outcome.{Outcome}
use Rattle.swf_meaning.specs.declared.label.Outcome.TheVariants.{Load, Start, Event, Reply, Moment}
use Rattle.swf_meaning.specs.declared.label.Query.{Query}
use Rattle.swf_meaning.specs.declared.label.Query.TheVariants.{Status, Pending, Outbox, History}
use Rattle.swf_protocol.specs.Number.{greatest_budget, last_moment}
use Rattle.swf_protocol.specs.Words.{joined, is_id, is_unspaced}
use Rattle.swf_protocol.specs.declared.command.Command.{Command}
use Rattle.swf_protocol.specs.declared.command.Command.TheVariants.{Do, Ask, Settle, Quit}

abbrev pub outcome_words : Outcome → List (List ℕ)
outcome_words (Load v) = codes "load" ∷ written v ∷ []
outcome_words (Start id key input) =
    codes "start" ∷ encode_utf8_all id ∷ encode_utf8_all key.namespace ∷ encode_utf8_all key.name ∷ encode_utf8_all key.version ∷ written input ∷ []
outcome_words (Event e) = codes "event" ∷ written (event_value e) ∷ []
outcome_words (Reply activity r) = codes "reply" ∷ encode_utf8_all activity ∷ written (reply_value r) ∷ []
outcome_words (Moment moment) = codes "moment" ∷ decimal moment ∷ []

abbrev pub query_words : Query → List (List ℕ)
query_words (Status id) = codes "status" ∷ encode_utf8_all id ∷ []
query_words Pending = codes "pending" ∷ []
query_words (Outbox n) = codes "outbox" ∷ decimal n ∷ []
query_words (History n) = codes "history" ∷ decimal n ∷ []

-- the first word of a command and its arguments
abbrev pub command_words : Command → List (List ℕ)
command_words (Do o) = outcome_words o
command_words (Ask q) = query_words q
command_words (Settle None) = codes "settle" ∷ []
command_words (Settle (Some n)) = codes "settle" ∷ decimal n ∷ []
command_words Quit = codes "quit" ∷ []

-- the line that a command is written as
abbrev pub command_text : Command → List ℕ
command_text c = joined (command_words c)

-- a value in which lists and objects nest at most so deep
pub record IsSaid (most : ℕ) (v : Value) : Type 0 where
  pub value : IsValue v
  pub shallow : depth v ≤ most

-- a text of characters, none of them a space
pub record IsWord (t : List ℕ) : Type 0 where
  pub scalars : all_scalars t ≡ true
  pub unspaced : is_unspaced t ≡ true

-- an event that is read again from its value
pub record IsTold (e : TheEvent) : Type 0 where
  pub said : IsSaid 64 (event_value e)
  pub again : event_of (event_value e) ≡ Ok e

-- a reply with a status
pub record IsAnswer (r : CallReply) : Type 0 where
  pub said : IsSaid 65 (reply_value r)
  pub range : IsInRange r

abbrev pub IsOutcome : Outcome → Type 0
IsOutcome (Load v) = IsSaid 64 v
IsOutcome (Start id key input) = (is_id id ≡ true) × IsWord key.namespace × IsWord key.name × IsWord key.version × IsSaid 64 input
IsOutcome (Event e) = IsTold e
IsOutcome (Reply activity r) = IsWord activity × IsAnswer r
IsOutcome (Moment moment) = moment ≤ last_moment

abbrev pub IsQuery : Query → Type 0
IsQuery (Status id) = is_id id ≡ true
IsQuery Pending = Unit {0}
IsQuery (Outbox n) = n < 2 ^ 64
IsQuery (History n) = n < 2 ^ 64

-- ids and words of their form, values no deeper than a line's, and numbers in range
abbrev pub IsSpeakable : Command → Type 0
IsSpeakable (Do o) = IsOutcome o
IsSpeakable (Ask q) = IsQuery q
IsSpeakable (Settle None) = Unit {0}
IsSpeakable (Settle (Some n)) = (0 < n) × (n ≤ greatest_budget)
IsSpeakable Quit = Unit {0}
