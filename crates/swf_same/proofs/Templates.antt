-- Lists of templates and of fields that stand for the same.
use Rattle.std.proofs.Common.{◌≡◌, refl, List, [], ◌∷◌}
use Rattle.swf_document.specs.Template.{Template}
use Rattle.swf_document.specs.TemplateNode.{fields_of, templates_of}
use Rattle.swf_document.specs.declared.template.Field.{Field}

pub templates_of_one : (a b : List Template) → templates_of a ≡ templates_of b → a ≡ b
templates_of_one [] [] p = refl
templates_of_one (x ∷ xs) (y ∷ ys) p = let r : xs ≡ ys = templates_of_one xs ys cc in cc
templates_of_one a b p = cc

pub fields_of_one : (a b : List Field) → fields_of a ≡ fields_of b → a ≡ b
fields_of_one [] [] p = refl
fields_of_one (x ∷ xs) (y ∷ ys) p =
    let k : x.name ≡ y.name = cc in
    let v : x.value ≡ y.value = cc in
    let r : xs ≡ ys = fields_of_one xs ys cc in λ i. record { name = k i; value = v i } ∷ r i
fields_of_one a b p = cc
