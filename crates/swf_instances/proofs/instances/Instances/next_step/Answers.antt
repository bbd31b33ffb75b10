use Rattle.std.proofs.Common.{◌≡◌, ◌∙◌, ◌<◌, sym, subst, ℕ, List, [], length, Option, IfSome}
use Rattle.std.specs.Option.{IfNone}
use Rattle.swf_instances.specs.Held.{instances_in}
use Rattle.swf_instances.specs.Queued.{CanGoAt, Queued}
use Rattle.swf_instances.proofs.QueuedLemmas.{quiet_without, queued_rotated, kept_ordered}
use Rattle.swf_instances.proofs.instances.Instances.next_step.Goals as goal

pub returns-in_default-clause-none : goal.returns-in_default-clause-none
returns-in_default-clause-none c =
    let now = c.self.inside.moment in
    let is = instances_in c.self.inside.machines.entries in
    quiet_without now is (subst (λ queue. Queued now is queue) (subst (λ (o : Option (ℕ × List ℕ)). IfNone o (c.first_step.new.queue.numbers ≡ [])) c.in_default.is c.in_ok-step.ensures.none) (c.first_step.ensures.queue c.self.invariant.waiting.queued))

pub invariant_of-self : goal.invariant_of-self
invariant_of-self c =
    kept_ordered c.self.inside.machines.entries c.self.inside.moment c.self.inside.queue c.first_step.new.queue c.self.inside.alarms.moments c.self.inside.listeners.wanted c.self.inside.stale
    c.self.invariant c.first_step.ensures.count (c.first_step.ensures.queue c.self.invariant.waiting.queued)

pub invariant_of-self-2 : goal.invariant_of-self-2
invariant_of-self-2 c =
    let now = c.self.inside.moment in
    let is = instances_in c.self.inside.machines.entries in
    let some = subst (λ (o : Option (ℕ × List ℕ)). IfSome o (λ p. CanGoAt now is p.0 p.1 × (0 < length c.first_step.new.queue.numbers))) c.in-Some.is c.in_ok-step.ensures.some in
    kept_ordered c.self.inside.machines.entries now c.self.inside.queue c.rotate.new.self c.self.inside.alarms.moments c.self.inside.listeners.wanted c.self.inside.stale
    c.self.invariant (c.rotate.ensures.count ∙ c.first_step.ensures.count)
    (subst (λ queue. Queued now is queue) (sym c.rotate.ensures.numbers)
    (queued_rotated now is c.first_step.new.queue.numbers some.1 (c.first_step.ensures.queue c.self.invariant.waiting.queued)))
