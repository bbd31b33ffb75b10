-- The kinds of outcomes, and how each is answered.
use Rattle.std.specs.Prelude.{ℕ}
use Rattle.swf_meaning.specs.declared.label.Outcome.{Outcome}
use Rattle.swf_meaning.specs.declared.label.Outcome.TheVariants as outcomes
use Rattle.swf_protocol.specs.declared.reply.Reply.{Reply}
use Rattle.swf_protocol.specs.declared.reply.Reply.TheVariants.{Loaded, Started, Accepted, Replied, Reached}
use Rattle.swf_turns.specs.declared.answer.Sort.{Sort}
use Rattle.swf_turns.specs.declared.answer.Sort.TheVariants.{Load, Start, Event, Reply as Answer, Moment}

abbrev pub sort_of : Outcome → Sort
sort_of (outcomes.Load v) = Load
sort_of (outcomes.Start id key input) = Start
sort_of (outcomes.Event e) = Event
sort_of (outcomes.Reply a r) = Answer
sort_of (outcomes.Moment moment) = Moment

-- the reply to an outcome of a kind whose label was added at this place, and whose event so many took
abbrev pub accepted_as : Sort → ℕ → ℕ → Reply
accepted_as Load place taken = Loaded place
accepted_as Start place taken = Started place
accepted_as Event place taken = Accepted place taken
accepted_as Answer place taken = Replied place
accepted_as Moment place taken = Reached place
