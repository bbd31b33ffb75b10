use Rattle.std.proofs.Common.{sym}
use Rattle.swf_instances.specs.Held.{instances_in}
use Rattle.swf_instances.proofs.QueuedLemmas.{entry_value, next_at, past_enabled}
use Rattle.swf_instances.proofs.next.strand_of.Goals as goal

pub returns-in-Some : goal.returns-in-Some
returns-in-Some c =
    next_at c.args.now (instances_in c.args.machines.now.entries) c.args.number c.in-Some.instance.now c.next_strand.result (entry_value c.args.machines.now.entries c.args.number _ c.in-Some.instance.now c.in-Some.ensures.entry) c.next_strand.ensures

pub returns-in-None : goal.returns-in-None
returns-in-None c = sym (past_enabled c.args.now c.args.machines.now.entries c.args.number c.in-None.ensures.entry)
