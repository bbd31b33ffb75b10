use Rattle.std.proofs.Common.{◌≡◌, ◌++◌, drop, map}
use Rattle.swf_cloudevents.specs.Event.{event_value}
use Rattle.swf_reports.proofs.waits.outbox.Given as goal

-- with the events that are left it is all
abbrev pub invariant-loop-event : goal.invariant-loop-event
invariant-loop-event l = l.items.items ++ map event_value (drop l.event-index l.event-items) ≡ map event_value l.event-items
