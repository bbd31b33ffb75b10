-- How far the first of two templates is from being taken apart, and how far the two agree.
use Rattle.std.proofs.Common.{◌≡◌, ◌+◌, ◌*◌, take}
use Rattle.swf_document.specs.Template.{weight, weight_templates, weight_fields}
use Rattle.swf_document.specs.TemplateNode.{fields_of, templates_of}
use Rattle.swf_same.proofs.template.+same.Given as goal

abbrev pub decreases-same_template : goal.decreases-same_template
decreases-same_template l = 8 * weight l.a.now + 1

abbrev pub decreases-same_templates : goal.decreases-same_templates
decreases-same_templates l = 8 * weight_templates (templates_of l.a.now) + 8

abbrev pub decreases-same_fields : goal.decreases-same_fields
decreases-same_fields l = 8 * weight_fields (fields_of l.a.now) + 8

abbrev pub decreases-same_field : goal.decreases-same_field
decreases-same_field l = 8 * weight l.a.now.value + 2

abbrev pub invariant-same_templates-loop-i : goal.invariant-same_templates-loop-i
invariant-same_templates-loop-i l = take l.i l.a ≡ take l.i l.b

abbrev pub invariant-same_fields-loop-i : goal.invariant-same_fields-loop-i
invariant-same_fields-loop-i l = take l.i l.a ≡ take l.i l.b
