use Rattle.std.proofs.Common.{◌∙◌}
use Rattle.swf_instances.proofs.QueuedLemmas.{entry_enabled, past_enabled}
use Rattle.swf_instances.proofs.next.is_enabled.Goals as goal

pub returns-in-Some : goal.returns-in-Some
returns-in-Some c = c.is_enabled.ensures ∙ entry_enabled c.args.now c.args.machines.now.entries c.args.number _ c.in-Some.instance.now c.in-Some.ensures.entry

pub returns-in-None : goal.returns-in-None
returns-in-None c = past_enabled c.args.now c.args.machines.now.entries c.args.number c.in-None.ensures.entry
