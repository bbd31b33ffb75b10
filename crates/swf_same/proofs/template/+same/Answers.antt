use Rattle.std.proofs.Common.{◌≡◌, ◌∙◌, ap, sym, arith}
use Rattle.swf_document.specs.Template.{list, object}
use Rattle.swf_document.specs.TemplateNode.{fields_of, node_template, templates_of}
use Rattle.swf_same.proofs.Lighter.{weight_template, weight_field}
use Rattle.swf_same.proofs.Templates.{templates_of_one, fields_of_one}
use Rattle.swf_same.proofs.template.+same.Goals as goal

pub same_fields-same_field-requires : goal.same_fields-same_field-requires
same_fields-same_field-requires t c =
    (omega (arith, weight_field c.args.a.now c.loop-i.i c.index-a-i.result c.loop-i-test.true c.index-a-i.is), tt)

pub same_templates-same_template-requires : goal.same_templates-same_template-requires
same_templates-same_template-requires t c =
    (omega (arith, weight_template c.args.a.now c.loop-i.i c.index-a-i.result c.loop-i-test.true c.index-a-i.is), tt)

pub same_template-returns-in-List-List : goal.same_template-returns-in-List-List
same_template-returns-in-List-List t c =
    let a = c.in-List-List.a.items in
    let b = c.in-List-List.b.items in
    let p : c.args.a.now ≡ list (templates_of a) = sym c.node.ensures ∙ ap node_template c.in-List-List.is-0 in
    let q : c.args.b.now ≡ list (templates_of b) = sym c.node-2.ensures ∙ ap node_template c.in-List-List.is-1 in
    let d : c.deref.result.now ≡ a = c.deref.ensures.value in
    let e : c.deref-in-List-List.result.now ≡ b = c.deref-in-List-List.ensures.value in (
      λ s. p ∙ ap (λ l. list (templates_of l)) (sym d ∙ c.same_templates.ensures.0 s ∙ e) ∙ sym q,
      λ r. let l : templates_of a ≡ templates_of b = cc (p, q, r) in c.same_templates.ensures.1 (d ∙ templates_of_one a b l ∙ sym e),
    )

pub same_template-returns-in-Object-Object : goal.same_template-returns-in-Object-Object
same_template-returns-in-Object-Object t c =
    let a = c.in-Object-Object.a.items in
    let b = c.in-Object-Object.b.items in
    let p : c.args.a.now ≡ object (fields_of a) = sym c.node.ensures ∙ ap node_template c.in-Object-Object.is-0 in
    let q : c.args.b.now ≡ object (fields_of b) = sym c.node-2.ensures ∙ ap node_template c.in-Object-Object.is-1 in
    let d : c.deref-in-Object-Object.result.now ≡ a = c.deref-in-Object-Object.ensures.value in
    let e : c.deref-in-Object-Object-2.result.now ≡ b = c.deref-in-Object-Object-2.ensures.value in (
      λ s. p ∙ ap (λ l. object (fields_of l)) (sym d ∙ c.same_fields.ensures.0 s ∙ e) ∙ sym q,
      λ r. let l : fields_of a ≡ fields_of b = cc (p, q, r) in c.same_fields.ensures.1 (d ∙ fields_of_one a b l ∙ sym e),
    )
