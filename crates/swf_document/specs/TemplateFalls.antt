-- Each template inside a node weighs less than the node.
use Rattle.std.specs.Prelude.{◌+◌, ◌≤◌, max, List, [], ◌∷◌}
use Rattle.std.proofs.Common.{arith}
use denote.Param.Weighed.{most}
use Rattle.swf_document.specs.Template.{Template, weight, weight_templates, weight_fields}
use Rattle.swf_document.specs.TemplateNode.{templates_of, fields_of, node_template}
use Rattle.swf_document.specs.declared.template.TemplateNode.{TemplateNode}
use Rattle.swf_document.specs.declared.template.TemplateNode.TheVariants as nodes
use Rattle.swf_document.specs.declared.template.Field.{Field}
use Rattle.swf_document.specs.declared.template.Template.TheDeep.{deep-TemplateNode, deep-Field}

-- no item is heavier than all of them together
most_templates : (ts : List Template) → most (λ t. weight t + 1) ts ≤ weight_templates (templates_of ts) + 1
most_templates [] = omega arith
most_templates (t ∷ ts) = omega (arith, most_templates ts)

-- no member is heavier than all of them together
most_fields : (fs : List Field) → most deep-Field fs ≤ weight_fields (fields_of fs) + 1
most_fields [] = omega arith
most_fields (f ∷ fs) = omega (arith, most_fields fs)

pub falls : (n : TemplateNode) → max (deep-TemplateNode n) 0 ≤ weight (node_template n)
falls (nodes.Const v) = omega arith
falls (nodes.Run e) = omega arith
falls (nodes.List v) = omega (arith, most_templates v.items)
falls (nodes.Object v) = omega (arith, most_fields v.items)
