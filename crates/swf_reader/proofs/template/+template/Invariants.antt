use Rattle.std.proofs.Common.{◌≡◌, ◌+◌, ◌++◌, ◌≤◌, drop}
use Rattle.swf_value.specs.Node.{items_of, members_of, weight, weight_items, weight_members}
use Rattle.swf_reader.specs.Parts.{templates_in, named_templates}
use Rattle.swf_reader.proofs.ReadLemmas.{before_templates}
use Rattle.swf_reader.proofs.template.+template.Given as goal

abbrev pub decreases-template_in : goal.decreases-template_in
decreases-template_in l = weight l.value.now

abbrev pub decreases-templates_in : goal.decreases-templates_in
decreases-templates_in l = weight_items (items_of l.items.now) + 1

abbrev pub decreases-named_templates : goal.decreases-named_templates
decreases-named_templates l = weight_members (members_of l.members.now) + 1

-- the templates so far and those of what is left are all, and what is left weighs no more
abbrev pub invariant-templates_in-loop-item : goal.invariant-templates_in-loop-item
invariant-templates_in-loop-item l = record {
  filled : templates_in (items_of l.items) ≡ before_templates l.filled.items (templates_in (items_of (drop l.item-index l.items)));
  weigh : weight_items (items_of (drop l.item-index l.items)) ≤ weight_items (items_of l.items);
}

abbrev pub invariant-named_templates-loop-member : goal.invariant-named_templates-loop-member
invariant-named_templates-loop-member l = record {
  fields : named_templates (members_of l.members) ≡ l.fields.items ++ named_templates (members_of (drop l.member-index l.members));
  weigh : weight_members (members_of (drop l.member-index l.members)) ≤ weight_members (members_of l.members);
}
