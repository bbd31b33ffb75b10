use Rattle.swf_instances.specs.Held.{instances_in}
use Rattle.swf_instances.proofs.QueuedLemmas.{quiet_is, kept_ordered}
use Rattle.swf_instances.proofs.instances.Instances.is_quiet.Goals as goal

pub returns-clause-quiet : goal.returns-clause-quiet
returns-clause-quiet c =
    quiet_is c.self.inside.moment (instances_in c.self.inside.machines.entries) c.first_enabled.new.queue.numbers c.first_enabled.result c.is_none.result
    (c.first_enabled.ensures.queue c.self.invariant.waiting.queued) c.first_enabled.ensures.none c.first_enabled.ensures.some c.is_none.ensures

pub invariant_of-self : goal.invariant_of-self
invariant_of-self c =
    kept_ordered c.self.inside.machines.entries c.self.inside.moment c.self.inside.queue c.first_enabled.new.queue c.self.inside.alarms.moments c.self.inside.listeners.wanted c.self.inside.stale
    c.self.invariant c.first_enabled.ensures.count (c.first_enabled.ensures.queue c.self.invariant.waiting.queued)
