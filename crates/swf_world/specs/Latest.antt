-- The label of an outcome: the version `latest` stands for the last that was loaded.
use Rattle.swf_meaning.specs.declared.label.Label.{Label}
use Rattle.swf_meaning.specs.declared.label.Label.TheVariants.{Load, Start, Event, Reply, Moment}
use Rattle.swf_meaning.specs.declared.label.Outcome.{Outcome}
use Rattle.swf_meaning.specs.declared.label.Outcome.TheVariants as outcomes
use Rattle.swf_meaning.specs.World.{World}
use Rattle.swf_meaning.specs.Documents.{resolved}

abbrev pub label_of : World → Outcome → Label
label_of w (outcomes.Load v) = Load v
label_of w (outcomes.Start id key input) = Start id (resolved w.documents key) input
label_of w (outcomes.Event e) = Event e
label_of w (outcomes.Reply a r) = Reply a r
label_of w (outcomes.Moment moment) = Moment moment
