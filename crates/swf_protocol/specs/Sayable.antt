-- The numbers of a reply fit a value, and what a line asks for is small.
use Rattle.std.specs.Prelude.{◌≡◌, ◌≤◌, ◌^◌, Some, None, Ok}
use Rattle.swf_value.specs.Value.{depth}
use Rattle.swf_calls.specs.Reply.{IsInRange, reply_value}
use Rattle.swf_cloudevents.specs.Event.{event_of, event_value}
use Rattle.swf_meaning.specs.declared.label.Outcome.{Outcome}
use Rattle.swf_meaning.specs.declared.label.Outcome.TheVariants.{Load, Start, Event, Reply as Replies, Moment}
use Rattle.swf_protocol.specs.declared.command.Command.{Command}
use Rattle.swf_protocol.specs.declared.command.Command.TheVariants.{Do, Ask, Settle, Quit as Leave}
use Rattle.swf_protocol.specs.declared.reply.Reply.{Reply}
use Rattle.swf_protocol.specs.declared.reply.Reply.TheVariants.{Loaded, Started, Accepted, Replied, Reached, Quiet, Budget, Report, Pending, Outbox, History, Quit, BadLine, BadEvent, TooLong, Refused, Duplicate, UnknownDocument, UnknownInstance, Stale, Past, Full, Memory}

abbrev pub IsSayable : Reply → Type 0
IsSayable (Loaded n) = n ≤ 2 ^ 40
IsSayable (Started n) = n ≤ 2 ^ 40
IsSayable (Accepted place taken) = place ≤ 2 ^ 40
IsSayable (Replied n) = n ≤ 2 ^ 40
IsSayable (Reached n) = n ≤ 2 ^ 40
IsSayable (Quiet n) = n ≤ 2 ^ 40
IsSayable (Budget n) = n ≤ 2 ^ 40
IsSayable (Report v) = Unit {0}
IsSayable (Pending v) = Unit {0}
IsSayable (Outbox v) = Unit {0}
IsSayable (History v) = Unit {0}
IsSayable Quit = Unit {0}
IsSayable (BadLine f) = Unit {0}
IsSayable (BadEvent a k) = Unit {0}
IsSayable TooLong = Unit {0}
IsSayable (Refused fs) = Unit {0}
IsSayable (Duplicate n) = n ≤ 2 ^ 40
IsSayable UnknownDocument = Unit {0}
IsSayable UnknownInstance = Unit {0}
IsSayable Stale = Unit {0}
IsSayable (Past now) = Unit {0}
IsSayable Full = Unit {0}
IsSayable Memory = Unit {0}

-- its value nests at most 64 deep, and the object around a reply's one deeper; an event is read from its own value, and the status
-- of a reply is one
abbrev pub IsShallow : Outcome → Type 0
IsShallow (Load v) = depth v ≤ 64
IsShallow (Start id key input) = depth input ≤ 64
IsShallow (Event e) = (depth (event_value e) ≤ 64) × (event_of (event_value e) ≡ Ok e)
IsShallow (Replies a r) = (depth (reply_value r) ≤ 65) × IsInRange r
IsShallow (Moment moment) = Unit {0}

-- values nest no deeper than that, and a settling takes at most a million steps
abbrev pub IsModest : Command → Type 0
IsModest (Do o) = IsShallow o
IsModest (Ask q) = Unit {0}
IsModest (Settle None) = Unit {0}
IsModest (Settle (Some n)) = n ≤ 1000000
IsModest Leave = Unit {0}
