-- Which command a line spells, or its first fault from the left.
use Rattle.std.specs.Prelude.{ℕ, List, [], ◌∷◌, Bool, true, false, chars, Option, Some, None, Result, Ok, Err, if◌then◌else◌}
use Rattle.std.specs.Str.{is_utf8}
use Rattle.swf_value.specs.Value.{Value}
use Rattle.swf_calls.specs.Reply.{reply_of}
use Rattle.swf_calls.specs.declared.reply.CallReply.{CallReply}
use Rattle.swf_cloudevents.specs.Event.{event_of}
use Rattle.swf_cloudevents.specs.Faults.{Fault}
use Rattle.swf_cloudevents.specs.declared.event.Event.{Event as TheEvent}
use Rattle.swf_document.specs.declared.document.DocKey.{DocKey}
use Rattle.swf_meaning.specs.declared.label.Outcome.TheVariants.{Load, Start, Event, Reply, Moment}
use Rattle.swf_meaning.specs.declared.label.Query.TheVariants.{Status, Pending, Outbox, History}
use Rattle.swf_protocol.specs.Number.{number_of, budget_of, moment_in}
use Rattle.swf_protocol.specs.Reading.{value_in}
use Rattle.swf_protocol.specs.Verbs.{verb_of}
use Rattle.swf_protocol.specs.Words.{words_of, joined, is_id}
use Rattle.swf_protocol.specs.declared.command.Command.{Command}
use Rattle.swf_protocol.specs.declared.command.Command.TheVariants.{Do, Ask, Settle, Quit}
use Rattle.swf_protocol.specs.declared.command.CommandFault.{CommandFault}
use Rattle.swf_protocol.specs.declared.command.CommandFault.TheVariants.{BadLine, BadEvent}
use Rattle.swf_protocol.specs.declared.command.LineFault.{LineFault}
use Rattle.swf_protocol.specs.declared.command.LineFault.TheVariants as faults
use Rattle.swf_protocol.specs.declared.verb.Verb.{Verb}
use Rattle.swf_protocol.specs.declared.verb.Verb.TheVariants as verbs

abbrev pub bad : LineFault → Result Command CommandFault
bad f = Err (BadLine f)

-- what follows a value, unless none was read
abbrev pub and_then : (Value → Result Command CommandFault) → Result Value CommandFault → Result Command CommandFault
and_then f (Ok v) = f v
and_then f (Err e) = Err e

-- the command of a number, if it is one
abbrev pub numbered : (ℕ → Command) → Option ℕ → Result Command CommandFault
numbered f (Some n) = Ok (f n)
numbered f None = bad faults.Number

-- the command of an event, if the value is one, and that of a reply
abbrev pub told : Result TheEvent Fault → Result Command CommandFault
told (Ok e) = Ok (Do (Event e))
told (Err f) = Err (BadEvent f.0 f.1)

abbrev pub replied : List ℕ → Option CallReply → Result Command CommandFault
replied activity (Some r) = Ok (Do (Reply activity r))
replied activity None = bad faults.Reply

-- ---- each command by the words behind its first; the last argument of `load`, `start`, `event` and `reply` is the rest of the line

abbrev pub load_with : List ℕ → Result Command CommandFault
load_with json = and_then (λ v. Ok (Do (Load v))) (value_in 64 json)

-- `load JSON`
abbrev pub load_line : List (List ℕ) → Result Command CommandFault
load_line [] = bad faults.Command
load_line json = load_with (joined json)

abbrev pub key_of : List ℕ → List ℕ → List ℕ → DocKey
key_of namespace name version = record { namespace = chars namespace; name = chars name; version = chars version }

abbrev pub start_with : List ℕ → DocKey → List ℕ → Result Command CommandFault
start_with id key json = if is_id id then and_then (λ v. Ok (Do (Start (chars id) key v))) (value_in 64 json) else bad faults.Word

-- `start ID NAMESPACE NAME VERSION JSON`
abbrev pub start_line : List (List ℕ) → Result Command CommandFault
start_line (id ∷ namespace ∷ name ∷ version ∷ []) = bad faults.Command
start_line (id ∷ namespace ∷ name ∷ version ∷ json) = start_with id (key_of namespace name version) (joined json)
start_line words = bad faults.Command

abbrev pub event_with : List ℕ → Result Command CommandFault
event_with json = and_then (λ v. told (event_of v)) (value_in 64 json)

-- `event JSON`
abbrev pub event_line : List (List ℕ) → Result Command CommandFault
event_line [] = bad faults.Command
event_line json = event_with (joined json)

abbrev pub reply_with : List ℕ → List ℕ → Result Command CommandFault
reply_with activity json = and_then (λ v. replied (chars activity) (reply_of v)) (value_in 65 json)

-- `reply ACTIVITY JSON`
abbrev pub reply_line : List (List ℕ) → Result Command CommandFault
reply_line (activity ∷ []) = bad faults.Command
reply_line (activity ∷ json) = reply_with activity (joined json)
reply_line [] = bad faults.Command

-- `moment T`
abbrev pub moment_line : List (List ℕ) → Result Command CommandFault
moment_line (t ∷ []) = numbered (λ n. Do (Moment n)) (moment_in t)
moment_line words = bad faults.Command

-- `settle N` or `settle`
abbrev pub settle_line : List (List ℕ) → Result Command CommandFault
settle_line [] = Ok (Settle None)
settle_line (n ∷ []) = numbered (λ n. Settle (Some n)) (budget_of n)
settle_line words = bad faults.Command

-- `status ID`
abbrev pub status_line : List (List ℕ) → Result Command CommandFault
status_line (id ∷ []) = if is_id id then Ok (Ask (Status (chars id))) else bad faults.Word
status_line words = bad faults.Command

-- `pending`
abbrev pub pending_line : List (List ℕ) → Result Command CommandFault
pending_line [] = Ok (Ask Pending)
pending_line words = bad faults.Command

-- `outbox N`
abbrev pub outbox_line : List (List ℕ) → Result Command CommandFault
outbox_line (n ∷ []) = numbered (λ n. Ask (Outbox n)) (number_of n)
outbox_line words = bad faults.Command

-- `history N`
abbrev pub history_line : List (List ℕ) → Result Command CommandFault
history_line (n ∷ []) = numbered (λ n. Ask (History n)) (number_of n)
history_line words = bad faults.Command

-- `quit`
abbrev pub quit_line : List (List ℕ) → Result Command CommandFault
quit_line [] = Ok Quit
quit_line words = bad faults.Command

-- ---- lines

abbrev pub line_of : Verb → List (List ℕ) → Result Command CommandFault
line_of verbs.Load words = load_line words
line_of verbs.Start words = start_line words
line_of verbs.Event words = event_line words
line_of verbs.Reply words = reply_line words
line_of verbs.Moment words = moment_line words
line_of verbs.Settle words = settle_line words
line_of verbs.Status words = status_line words
line_of verbs.Pending words = pending_line words
line_of verbs.Outbox words = outbox_line words
line_of verbs.History words = history_line words
line_of verbs.Quit words = quit_line words

abbrev pub asked : Option Verb → List (List ℕ) → Result Command CommandFault
asked (Some verb) words = line_of verb words
asked None words = bad faults.Command

-- the command that some words spell, or its first fault
abbrev pub spelled : List (List ℕ) → Result Command CommandFault
spelled (word ∷ words) = asked (verb_of word) words
spelled [] = bad faults.Command

-- the command that a line spells, or its first fault
abbrev pub command_of : List ℕ → Result Command CommandFault
command_of line = if is_utf8 line then spelled (words_of line) else bad faults.Command

-- the line ends the session
abbrev pub is_quit : Result Command CommandFault → Bool
is_quit (Ok Quit) = true
is_quit c = false
