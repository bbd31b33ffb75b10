-- The template that one level of a `Template` stands for.
use Rattle.std.specs.Prelude.{List, [], ◌∷◌}
use Rattle.swf_document.specs.Template.{Template, constant, run, list, object, Templates, no_templates, template, Fields, no_fields, field}
use Rattle.swf_document.specs.declared.template.TemplateNode.{TemplateNode}
use Rattle.swf_document.specs.declared.template.TemplateNode.TheVariants as nodes
use Rattle.swf_document.specs.declared.template.Field.{Field}

abbrev pub templates_of : List Template → Templates
templates_of [] = no_templates
templates_of (t ∷ ts) = template t (templates_of ts)

abbrev pub fields_of : List Field → Fields
fields_of [] = no_fields
fields_of (f ∷ fs) = field f.name f.value (fields_of fs)

abbrev pub node_template : TemplateNode → Template
node_template (nodes.Const v) = constant v
node_template (nodes.Run e) = run e
node_template (nodes.List v) = list (templates_of v.items)
node_template (nodes.Object v) = object (fields_of v.items)
