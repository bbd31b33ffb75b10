use Rattle.std.proofs.Common.{◌≡◌, ◌+◌, drop}
use Rattle.swf_value.specs.Grow.{IsObject}
use Rattle.swf_document.specs.Template.{list as list_of, object as object_of, weight, weight_templates, weight_fields}
use Rattle.swf_document.specs.TemplateNode.{templates_of, fields_of}
use Rattle.swf_templates.specs.Fill.{filled, filled_items}
use Rattle.swf_transform.proofs.Steps.{listed, onto}
use Rattle.swf_transform.proofs.filling.+filled.Given as goal

abbrev pub decreases-filled : goal.decreases-filled
decreases-filled l = weight l.template.now

abbrev pub decreases-filled_list : goal.decreases-filled_list
decreases-filled_list l = weight_templates (templates_of l.items.now) + 1

abbrev pub decreases-filled_object : goal.decreases-filled_object
decreases-filled_object l = weight_fields (fields_of l.fields.now) + 1

abbrev pub invariant-filled_list-loop-item : goal.invariant-filled_list-loop-item
invariant-filled_list-loop-item l =
    listed l.values.items (filled_items l.vars l.input (templates_of (drop l.item-index l.items))) ≡ filled l.vars l.input (list_of (templates_of l.items))

abbrev pub invariant-filled_object-loop-field : goal.invariant-filled_object-loop-field
invariant-filled_object-loop-field l =
    IsObject l.object × (onto l.vars l.input l.object (fields_of (drop l.field-index l.fields)) ≡ filled l.vars l.input (object_of (fields_of l.fields)))
