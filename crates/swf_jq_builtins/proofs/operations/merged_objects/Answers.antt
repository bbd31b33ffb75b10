use Rattle.std.proofs.Common.{◌≡◌, ◌∙◌, ap, Ok}
use Rattle.swf_value.specs.Node.{members_of}
use Rattle.swf_value.specs.Value.{no_members, object}
use Rattle.swf_jq_builtins.specs.MapMembers.{entries_members}
use Rattle.swf_evaluation.specs.Operations.{merged}
use Rattle.swf_jq_builtins.proofs.Merges.{merged_with_none}
use Rattle.swf_jq_builtins.proofs.operations.merged_objects.Goals as goal

pub returns : goal.returns
returns c =
    let none : entries_members c.new-map.result.entries ≡ no_members = ap entries_members c.new-map.ensures.empty in
    let left : entries_members c.put_all.new.map.entries ≡ c.args.left.now =
    c.in_ok-put_all.ensures ∙ ap (λ ms. merged ms (members_of c.as_slice.result.now)) none ∙ ap (merged no_members) c.as_slice.ensures ∙ merged_with_none c.args.left.now c.requires in
    ap Ok (c.in_ok-into_object.ensures ∙ ap object (c.in_ok-put_all-2.ensures ∙ ap (λ ms. merged ms (members_of c.as_slice-2.result.now)) left ∙ ap (merged c.args.left.now) c.as_slice-2.ensures))
