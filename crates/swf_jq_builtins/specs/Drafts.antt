-- The value that a draft of a sum stands for.
use Rattle.swf_value.specs.Node.{items_of}
use Rattle.swf_value.specs.Value.{Value, text, list, object}
use Rattle.swf_jq_builtins.specs.MapMembers.{entries_members}
use Rattle.swf_jq_builtins.specs.declared.totals.Draft.{Draft}
use Rattle.swf_jq_builtins.specs.declared.totals.Draft.TheVariants as drafts

abbrev pub drafted : Draft → Value
drafted (drafts.Text t) = text t
drafted (drafts.List vs) = list (items_of vs.items)
drafted (drafts.Object m) = object (entries_members m.entries)
