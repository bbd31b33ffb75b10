use Rattle.std.proofs.Common.{◌≡◌, ◌++◌}
use Rattle.swf_jq_builtins.proofs.Merges.{as_members}
use Rattle.swf_jq_builtins.proofs.fields.into_object.Given as goal

abbrev pub invariant-loop-name : goal.invariant-loop-name
invariant-loop-name l = l.members.items ++ as_members l.name-iterator ≡ as_members l.fn.map.entries
