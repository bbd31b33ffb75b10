-- By what an outcome is known that is handed in.
use Rattle.swf_runs.specs.Keys.{doc_key}
use Rattle.swf_meaning.specs.declared.key.Key.{Key}
use Rattle.swf_meaning.specs.declared.key.Key.TheVariants as keys
use Rattle.swf_meaning.specs.declared.label.Outcome.{Outcome}
use Rattle.swf_meaning.specs.declared.label.Outcome.TheVariants.{Load, Start, Event, Reply, Moment}

abbrev pub outcome_key : Outcome → Key
outcome_key (Load v) = keys.Document (doc_key v)
outcome_key (Start id key input) = keys.Instance id
outcome_key (Event e) = keys.Event e.source e.id
outcome_key (Reply a r) = keys.Activity a
outcome_key (Moment moment) = keys.Moment moment
