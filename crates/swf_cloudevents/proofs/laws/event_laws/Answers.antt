use Rattle.swf_cloudevents.proofs.Trips.{event_laws}
use Rattle.swf_cloudevents.proofs.laws.event_laws.Goals as goal

pub returns : goal.returns
returns c = event_laws
