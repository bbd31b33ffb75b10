use Rattle.std.proofs.Common.{◌≡◌, ◌∙◌, ◌∷◌, ◌+◌, ap, sym, refl, List, drop, arith}
use Rattle.std.proofs.lemmas.List.{drop_all}
use Rattle.swf_value.proofs.Writing.{first_of_rest}
use Rattle.swf_value.specs.Node.{items_of, members_of, weight_items, weight_members}
use Rattle.swf_value.specs.Value.{Value}
use Rattle.swf_value.specs.declared.value.Member.{Member}
use Rattle.swf_reader.specs.Parts.{templates_in, named_templates}
use Rattle.swf_reader.proofs.ReadLemmas.{all_made, before_templates, one_more, templates_step, templates_all}
use Rattle.swf_reader.proofs.template.+template.Goals as goal

pub templates_in-loop-item-preserved : goal.templates_in-loop-item-preserved
templates_in-loop-item-preserved t c =
    let ds = c.args.items.now in
    let i = c.loop-item.item-index in
    let d = c.item-item.result in
    let first : drop i ds ≡ d ∷ drop (i + 1) ds = first_of_rest ds i d c.loop-item-test.true c.item-item.is in
    record {
      filled = templates_step ds i d c.loop-item.filled.items c.push.new.self.items c.in_ok-template_in.field-0 _ first c.in_ok-template_in.ensures c.in_ok-push.ensures.items c.loop-item.invariant.filled;
      weigh = omega (arith, c.loop-item.invariant.weigh, ap (λ (l : List Value). weight_items (items_of l)) first);
    }

pub templates_in-returns : goal.templates_in-returns
templates_in-returns t c =
    let xs = c.loop-item.filled.items in
    sym (c.loop-item.invariant.filled ∙ ap (λ (l : List Value). before_templates xs (templates_in (items_of l))) (drop_all c.loop-item.item-index c.args.items.now c.loop-item-test.false) ∙ templates_all xs)

pub named_templates-loop-member-preserved : goal.named_templates-loop-member-preserved
named_templates-loop-member-preserved t c =
    let ms = c.args.members.now in
    let i = c.loop-member.member-index in
    let m = c.member-item.result in
    let first : drop i ms ≡ m ∷ drop (i + 1) ms = first_of_rest ms i m c.loop-member-test.true c.member-item.is in
    let rest = named_templates (members_of (drop (i + 1) ms)) in
    record {
      fields = one_more (λ (l : List Member). named_templates (members_of l)) ms i m c.loop-member.fields.items c.push.new.self.items _ _ first
          (sym (λ j. record { name = c.in_ok-name.ensures j; value = c.in_ok-value.ensures j } ∷ rest)) c.in_ok-push.ensures.items c.loop-member.invariant.fields;
      weigh = omega (arith, c.loop-member.invariant.weigh, ap (λ (l : List Member). weight_members (members_of l)) first);
    }

pub named_templates-returns : goal.named_templates-returns
named_templates-returns t c = all_made (λ (l : List Member). named_templates (members_of l)) c.args.members.now c.loop-member.member-index c.loop-member.fields.items _ c.loop-member-test.false refl c.loop-member.invariant.fields
