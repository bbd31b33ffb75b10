use Rattle.std.proofs.Common.{◌∙◌, ◌++◌, ◌∷◌, [], ap}
use Rattle.swf_cloudevents.specs.Event.{event_value}
use Rattle.swf_reports.proofs.PendingLemmas.{one_more}
use Rattle.swf_reports.proofs.waits.outbox.Goals as goal

pub loop-event-preserved : goal.loop-event-preserved
loop-event-preserved c =
    one_more event_value c.told-event-items.result.now c.loop-event.event-index c.event-item.result c.loop-event.items.items c.push.new.self.items _ c.loop-event-test.true c.event-item.is
    (c.in_ok-push.ensures.items ∙ ap (λ v. c.loop-event.items.items ++ v ∷ []) c.in_ok-event_json.ensures) c.loop-event.invariant
