use Rattle.std.proofs.Common.{◌≡◌, ◌++◌, drop}
use Rattle.swf_value.specs.Node.{members_of}
use Rattle.swf_evaluation.specs.Builtins.{entries_of}
use Rattle.swf_jq_builtins.proofs.entries.entries_of.Given as goal

abbrev pub invariant-loop-member : goal.invariant-loop-member
invariant-loop-member l = l.entries.items ++ entries_of (members_of (drop l.member-index l.members)) ≡ entries_of (members_of l.members)
