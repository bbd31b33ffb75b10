-- How far a template is from being taken apart, and what has been told of its parts so far.
use Rattle.std.proofs.Common.{◌≡◌, ◌+◌, ◌*◌, ◌++◌, drop}
use Rattle.swf_document.specs.Template.{weight, weight_templates, weight_fields}
use Rattle.swf_document.specs.TemplateNode.{templates_of, fields_of}
use Rattle.swf_scope.specs.Scope.{item_faults, field_faults}
use Rattle.swf_scope.specs.Spots.{place_at}
use Rattle.swf_scope.specs.VariablesView.{names_in}
use Rattle.swf_scope.proofs.expressions.+templates.Given as goal

abbrev pub decreases-template : goal.decreases-template
decreases-template l = 4 * weight l.given.now

abbrev pub decreases-list_items : goal.decreases-list_items
decreases-list_items l = 4 * weight_templates (templates_of l.items.now) + 1

abbrev pub decreases-fields : goal.decreases-fields
decreases-fields l = 4 * weight_fields (fields_of l.given.now) + 1

abbrev pub invariant-list_items-loop-position : goal.invariant-list_items-loop-position
invariant-list_items-loop-position l =
    l.out ++ item_faults (names_in l.variables) (place_at l.at) l.position (templates_of (drop l.position l.items)) ≡ l.fn.out ++ item_faults (names_in l.variables) (place_at l.at) 0 (templates_of l.items)

abbrev pub invariant-fields-loop-field : goal.invariant-fields-loop-field
invariant-fields-loop-field l =
    l.out ++ field_faults (names_in l.variables) (place_at l.at) (fields_of (drop l.field-index l.given)) ≡ l.fn.out ++ field_faults (names_in l.variables) (place_at l.at) (fields_of l.given)
