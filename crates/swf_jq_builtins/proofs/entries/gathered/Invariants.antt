use Rattle.std.proofs.Common.{◌≡◌, drop}
use Rattle.swf_value.specs.Value.{no_members}
use Rattle.swf_evaluation.specs.Builtins.{gathered}
use Rattle.swf_jq_builtins.specs.MapMembers.{entries_members}
use Rattle.swf_jq_builtins.proofs.entries.gathered.Given as goal

abbrev pub invariant-loop-item : goal.invariant-loop-item
invariant-loop-item l = gathered (entries_members l.map.entries) (drop l.item-index l.items) ≡ gathered no_members l.items
