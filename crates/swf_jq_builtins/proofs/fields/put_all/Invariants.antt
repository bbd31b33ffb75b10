use Rattle.std.proofs.Common.{◌≡◌, drop}
use Rattle.swf_value.specs.Node.{members_of}
use Rattle.swf_jq_builtins.specs.MapMembers.{entries_members}
use Rattle.swf_evaluation.specs.Operations.{merged}
use Rattle.swf_jq_builtins.proofs.fields.put_all.Given as goal

abbrev pub invariant-loop-member : goal.invariant-loop-member
invariant-loop-member l = merged (entries_members l.map.entries) (members_of (drop l.member-index l.members)) ≡ merged (entries_members l.initial.map.entries) (members_of l.members)
