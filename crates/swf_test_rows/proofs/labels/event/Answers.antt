use Rattle.swf_test_rows.proofs.Nesting.{event_nests}
use Rattle.swf_test_rows.proofs.labels.event.Goals as goal

pub returns-in-Ok : goal.returns-in-Ok
returns-in-Ok c = event_nests c.in_ok-value.value c.in-Ok.event c.in_ok-value.ensures.value c.in_ok-value.ensures.shallow c.in-Ok.ensures.event
