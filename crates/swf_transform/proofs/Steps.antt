-- Templates that are filled in one after another.
use Rattle.std.proofs.Common.{◌≡◌, ℕ, zero, suc, ◌<◌, ◌≤◌, List, [], ◌∷◌, ◌++◌, length, get_or, ap, arith}
use Rattle.swf_value.specs.Value.{Value, list, object}
use Rattle.swf_value.specs.Node.{items_of}
use Rattle.swf_document.specs.Template.{Template, Fields, weight, weight_templates, weight_fields}
use Rattle.swf_document.specs.TemplateNode.{templates_of, fields_of}
use Rattle.swf_document.specs.declared.template.Field.{Field}
use Rattle.swf_evaluation.specs.declared.vars.Variable.{Variable}
use Rattle.swf_templates.specs.declared.got.Got.{Got}
use Rattle.swf_templates.specs.declared.got.Got.TheVariants as gots
use Rattle.swf_templates.specs.Fill.{and_then, filled_fields}

-- what stands in a list or an object weighs no more than all of it
pub weight_template : (ts : List Template) (i : ℕ) (t : Template) → i < length ts → t ≡ get_or ts i t → weight t ≤ weight_templates (templates_of ts)
weight_template [] i t h e = absurd (omega arith)
weight_template (x ∷ xs) zero t h e = omega (arith, ap weight e)
weight_template (x ∷ xs) (suc i) t h e = omega (arith, weight_template xs i t (omega arith) e)

pub weight_field : (fs : List Field) (i : ℕ) (f : Field) → i < length fs → f ≡ get_or fs i f → weight f.value ≤ weight_fields (fields_of fs)
weight_field [] i f h e = absurd (omega arith)
weight_field (x ∷ xs) zero f h e = omega (arith, ap (λ n. weight n.value) e)
weight_field (x ∷ xs) (suc i) f h e = omega (arith, weight_field xs i f (omega arith) e)

-- a list of these values and of those that are got
abbrev pub listed : List Value → Got (List Value) → Got Value
listed vs g = and_then (λ ws. gots.Value (list (items_of (vs ++ ws)))) g

-- an object and the members that are filled
abbrev pub onto : List Variable → Value → Value → Fields → Got Value
onto r v (object ms) fs = filled_fields r v ms fs
onto r v o fs = gots.Value o
