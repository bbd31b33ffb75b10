-- A code for templates, by which a ghost name tells them apart.
use Rattle.std.specs.Prelude.{◌≡◌}
use Rattle.std.specs.Coded.{Coded}
use base.Stored.{Gv, gnil, gnum, gcons}
use mathlib.Core.Path.{ap}
use Rattle.swf_value.specs.ValueCode.{value_code}
use Rattle.swf_expr.specs.ExprCode.{tree_code}
use Rattle.swf_document.specs.Code.{head, tail, text_code}
use Rattle.swf_document.specs.Template.{Template, constant, run, list, object, Templates, no_templates, template, Fields, no_fields, field}

abbrev mutual
  code_template : Template → Gv
  code_template (constant v) = gcons (gnum 0) (value_code.code v)
  code_template (run e) = gcons (gnum 1) (tree_code.code e)
  code_template (list ts) = gcons (gnum 2) (code_templates ts)
  code_template (object fs) = gcons (gnum 3) (code_fields fs)

  code_templates : Templates → Gv
  code_templates no_templates = gnil
  code_templates (template t ts) = gcons (code_template t) (code_templates ts)

  code_fields : Fields → Gv
  code_fields no_fields = gnil
  code_fields (field k t fs) = gcons (text_code.code k) (gcons (code_template t) (code_fields fs))

mutual
  pub code_template_inj : (x y : Template) → code_template x ≡ code_template y → x ≡ y
  code_template_inj (constant a) (constant b) p = ap constant (value_code.inj a b (ap tail p))
  code_template_inj (run a) (run b) p = ap run (tree_code.inj a b (ap tail p))
  code_template_inj (list a) (list b) p = ap list (code_templates_inj a b (ap tail p))
  code_template_inj (object a) (object b) p = ap object (code_fields_inj a b (ap tail p))
  code_template_inj x y p = cc

  pub code_templates_inj : (x y : Templates) → code_templates x ≡ code_templates y → x ≡ y
  code_templates_inj no_templates no_templates p = λ i. no_templates
  code_templates_inj (template a ts) (template b us) p = λ i. template (code_template_inj a b (ap head p) i) (code_templates_inj ts us (ap tail p) i)
  code_templates_inj x y p = cc

  pub code_fields_inj : (x y : Fields) → code_fields x ≡ code_fields y → x ≡ y
  code_fields_inj no_fields no_fields p = λ i. no_fields
  code_fields_inj (field k a fs) (field l b gs) p =
      λ i. field (text_code.inj k l (ap head p) i) (code_template_inj a b (ap (λ g. head (tail g)) p) i) (code_fields_inj fs gs (ap (λ g. tail (tail g)) p) i)
  code_fields_inj x y p = cc

abbrev pub template_code : Coded Template
template_code = record { code = code_template; inj = code_template_inj }
