use Rattle.std.proofs.Common.{◌≡◌, drop}
use Rattle.std.specs.List.{list_all}
use Rattle.swf_value.specs.Members.{member_at}
use Rattle.swf_cloudevents.specs.Event.{event_value}
use Rattle.swf_templates.specs.Filter.{attribute_matches, filter_matches}
use Rattle.swf_transform.proofs.filter.filter_matches.Given as goal

abbrev pub invariant-loop-field : goal.invariant-loop-field
invariant-loop-field l =
    list_all (λ a. attribute_matches a.value (member_at a.name (event_value l.event))) (drop l.field-index l.field-items) ≡ filter_matches l.filter l.event
