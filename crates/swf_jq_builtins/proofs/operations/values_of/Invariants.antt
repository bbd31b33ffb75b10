use Rattle.std.proofs.Common.{◌≡◌, ◌++◌, drop}
use Rattle.swf_value.specs.Members.{member_values}
use Rattle.swf_value.specs.Node.{members_of}
use Rattle.swf_jq_builtins.proofs.operations.values_of.Given as goal

abbrev pub invariant-loop-member : goal.invariant-loop-member
invariant-loop-member l = l.values.items ++ member_values (members_of (drop l.member-index l.members)) ≡ member_values (members_of l.members)
