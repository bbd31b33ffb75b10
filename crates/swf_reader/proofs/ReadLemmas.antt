-- Lists as far as a reader has come.
use Rattle.std.proofs.Common.{◌≡◌, ◌∙◌, ◌+◌, ◌≤◌, ap, sym, refl, arith, append_assoc, append-nil, drop, get_or, ℕ, List, [], ◌∷◌, ◌++◌, length, Some, None}
use Rattle.std.proofs.lemmas.List.{drop_all}
use Rattle.swf_value.specs.Node.{items_of, members_of}
use Rattle.swf_value.specs.Value.{Value, Members, no_members, member}
use Rattle.swf_value.specs.declared.value.Member.{Member}
use Rattle.swf_document.specs.Template.{Template, Templates, no_templates, template, field}
use Rattle.swf_document.specs.TemplateNode.{templates_of, fields_of}
use Rattle.swf_reader.specs.Parts.{case_in, case_of_members, template_in, templates_in, fields_in, named_templates}

-- templates before others
abbrev pub before_templates : List Template → Templates → Templates
before_templates [] ts = ts
before_templates (x ∷ xs) ts = template x (before_templates xs ts)

pub templates_push : (xs : List Template) (x : Template) (ts : Templates) → before_templates (xs ++ x ∷ []) ts ≡ before_templates xs (template x ts)
templates_push [] x ts = refl
templates_push (y ∷ xs) x ts = ap (template y) (templates_push xs x ts)

pub templates_step : (ds : List Value) (i : ℕ) (d : Value) (old new : List Template) (x : Template) (whole : Templates) → drop i ds ≡ d ∷ drop (i + 1) ds → x ≡ template_in d → new ≡ old ++ x ∷ []
    → whole ≡ before_templates old (templates_in (items_of (drop i ds))) → whole ≡ before_templates new (templates_in (items_of (drop (i + 1) ds)))
templates_step ds i d old new x whole first is e w =
    let rest = templates_in (items_of (drop (i + 1) ds)) in
    w ∙ ap (λ (l : List Value). before_templates old (templates_in (items_of l))) first ∙ ap (λ y. before_templates old (template y rest)) (sym is)
    ∙ sym (templates_push old x rest) ∙ ap (λ l. before_templates l rest) (sym e)

pub templates_all : (xs : List Template) → before_templates xs no_templates ≡ templates_of xs
templates_all [] = refl
templates_all (x ∷ xs) = ap (template x) (templates_all xs)

-- the members of an object, each a template, are its fields
pub fields_named : (ms : Members) → fields_of (named_templates ms) ≡ fields_in ms
fields_named no_members = refl
fields_named (member k d ms) = ap (field k (template_in d)) (fields_named ms)

-- a case is an object of one member
pub not_one_case : (ms : List Member) → (length ms ≡ 1 → ⊥) → None ≡ case_of_members (members_of ms)
not_one_case [] h = refl
not_one_case (m ∷ []) h = absurd (h refl)
not_one_case (m ∷ n ∷ ms) h = refl

pub one_case : (ms : List Member) (m : Member) → length ms ≡ 1 → m ≡ get_or ms 0 m → Some (case_in m.name m.value) ≡ case_of_members (members_of ms)
one_case [] m h e = absurd (omega arith)
one_case (x ∷ []) m h e = ap (λ (y : Member). Some (case_in y.name y.value)) e
one_case (x ∷ y ∷ ms) m h e = absurd (omega arith)

-- a list that is made of some parts in order, one part further and at the end
pub one_more : {X A : Type 0} (F : List X → List A) (xs : List X) (i : ℕ) (x : X) (old new : List A) (a : A) (whole : List A) → drop i xs ≡ x ∷ drop (i + 1) xs → F (x ∷ drop (i + 1) xs) ≡ a ∷ F (drop (i + 1) xs) → new ≡ old ++ a ∷ []
    → whole ≡ old ++ F (drop i xs) → whole ≡ new ++ F (drop (i + 1) xs)
one_more F xs i x old new a whole first is e w =
    w ∙ ap (λ l. old ++ F l) first ∙ ap (λ l. old ++ l) is ∙ sym (append_assoc old (a ∷ []) (F (drop (i + 1) xs))) ∙ ap (λ l. l ++ F (drop (i + 1) xs)) (sym e)

pub all_made : {X A : Type 0} (F : List X → List A) (xs : List X) (i : ℕ) (old whole : List A) → length xs ≤ i → F [] ≡ [] → whole ≡ old ++ F (drop i xs) → old ≡ whole
all_made F xs i old whole past none w = sym (w ∙ ap (λ l. old ++ F l) (drop_all i xs past) ∙ ap (λ l. old ++ l) none ∙ append-nil old)
