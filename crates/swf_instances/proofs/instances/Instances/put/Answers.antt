use Rattle.std.proofs.Common.{◌≡◌, ◌∙◌, ap, Some, length, slice_get, arith}
use Rattle.std.proofs.lemmas.List.{length-map}
use Rattle.swf_strands.specs.Alarm.{alarm_of}
use Rattle.swf_instances.specs.Held.{instances_in}
use Rattle.swf_instances.specs.Offers.{ids, put_at}
use Rattle.swf_instances.proofs.NoteLemmas.{noted_stale}
use Rattle.swf_instances.proofs.TakeLemmas.{id_within, kept_put, set_put}
use Rattle.swf_instances.proofs.instances.Instances.put.Goals as goal

pub put-requires : goal.put-requires
put-requires c = omega (arith, id_within c.args.self.now.instances c.args.number c.args.instance.id c.requires, ap (λ h. length h.instances) c.self.view_is, c.self.invariant.waiting.count)

pub put-requires-2 : goal.put-requires-2
put-requires-2 c = omega (arith, id_within c.args.self.now.instances c.args.number c.args.instance.id c.requires, ap (λ h. length h.instances) c.self.view_is, c.self.invariant.listening.count)

pub set-requires : goal.set-requires
set-requires c =
    omega (
      arith,
      id_within c.args.self.now.instances c.args.number c.args.instance.id c.requires,
      ap (λ h. length h.instances) c.self.view_is,
      ap length c.self.invariant.waiting.own,
      length-map (instances_in c.self.inside.machines.entries) (λ i. alarm_of i.node),
    )

pub index_mut-requires : goal.index_mut-requires
index_mut-requires c =
    omega (arith, id_within c.args.self.now.instances c.args.number c.args.instance.id c.requires, ap (λ h. length h.instances) c.self.view_is, length-map c.self.inside.machines.entries (λ e. e.1))

pub invariant_of-self : goal.invariant_of-self
invariant_of-self c =
    let es = c.self.inside.machines.entries in
    let n = c.args.number in
    let j = c.args.instance in
    let own : slice_get (ids (instances_in es)) n ≡ Some j.id = ap (λ h. slice_get (ids h.instances) n) c.self.view_is ∙ c.requires in
    rw (c.set.ensures.moments, c.alarm.ensures)
    (kept_put es c.self.inside.moment n c.self.inside.queue c.put.new.self c.self.inside.alarms.moments c.self.inside.listeners.wanted c.self.inside.stale c.put-2.new.self j c.self.invariant own c.put.ensures.among c.put.ensures.count (noted_stale (instances_in es) c.self.inside.listeners.wanted c.self.inside.stale c.put-2.new.self n j c.self.invariant.listening c.put-2.ensures.among c.put-2.ensures.count))

pub returns-clause-instances : goal.returns-clause-instances
returns-clause-instances c = set_put c.self.inside.machines.entries c.args.number c.args.instance ∙ ap (λ h. put_at c.args.number c.args.instance h.instances) c.self.view_is
