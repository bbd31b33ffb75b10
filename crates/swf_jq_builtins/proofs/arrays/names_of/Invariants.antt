use Rattle.std.proofs.Common.{◌≡◌, ◌++◌, drop, map}
use Rattle.swf_value.specs.Members.{member_names}
use Rattle.swf_value.specs.Node.{members_of}
use Rattle.swf_value.specs.Value.{text}
use Rattle.swf_jq_builtins.proofs.arrays.names_of.Given as goal

abbrev pub invariant-loop-member : goal.invariant-loop-member
invariant-loop-member l = l.names.items ++ map text (member_names (members_of (drop l.member-index l.members))) ≡ map text (member_names (members_of l.members))
