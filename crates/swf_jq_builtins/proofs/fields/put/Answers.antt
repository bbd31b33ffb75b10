use Rattle.std.proofs.Common.{◌∙◌, ap}
use Rattle.swf_jq_builtins.specs.MapMembers.{entries_members}
use Rattle.swf_jq_builtins.proofs.Merges.{insert_puts}
use Rattle.swf_jq_builtins.proofs.fields.put.Goals as goal

pub returns : goal.returns
returns c = ap entries_members c.in_ok-insert.ensures.entries ∙ insert_puts c.args.name c.args.value c.args.map.now.entries
