use Rattle.std.proofs.Common.{◌≡◌, ◌∙◌, ap, sym, map, Some, length, option_map, slice_get, arith}
use Rattle.std.proofs.lemmas.List.{length-map}
use Rattle.std.proofs.lemmas.Option.{same_Some, slice_get-map, slice_get_within}
use Rattle.indexmap.specs.IndexMap.{set_value_at}
use Rattle.swf_strands.specs.Alarm.{alarm_of}
use Rattle.swf_meaning.specs.Reply.{is_of, is_open, with_reply}
use Rattle.swf_meaning.specs.World.{Instance}
use Rattle.swf_runs.specs.After.{replied_one}
use Rattle.swf_instances.specs.Held.{instances_in}
use Rattle.swf_instances.specs.Offers.{ids}
use Rattle.swf_instances.proofs.Lookups.{instance_there}
use Rattle.swf_instances.proofs.NoteLemmas.{noted_stale}
use Rattle.swf_instances.proofs.ReplyLemmas.{replied_put}
use Rattle.swf_instances.proofs.TakeLemmas.{kept_put, set_put}
use Rattle.swf_instances.proofs.instances.Instances.reply.Goals as goal

pub put-requires : goal.put-requires
put-requires c =
    omega (arith, slice_get_within c.args.self.now.instances c.args.number c.requires.0 c.requires.1, ap (λ h. length h.instances) c.self.view_is, c.self.invariant.waiting.count)

pub put-requires-2 : goal.put-requires-2
put-requires-2 c =
    omega (arith, slice_get_within c.args.self.now.instances c.args.number c.requires.0 c.requires.1, ap (λ h. length h.instances) c.self.view_is, c.self.invariant.listening.count)

pub index_mut-instance-requires : goal.index_mut-instance-requires
index_mut-instance-requires c =
    omega (arith, slice_get_within c.args.self.now.instances c.args.number c.requires.0 c.requires.1, ap (λ h. length h.instances) c.self.view_is, length-map c.self.inside.machines.entries (λ e. e.1))

-- the instance that is found is the one whose call is open
pub answer-requires : goal.answer-requires
answer-requires c =
    let es = c.self.inside.machines.entries in
    let n = c.args.number in
    let i = c.index_mut-instance.result.now in
    let same : c.requires.0 ≡ i = same_Some c.requires.0 i (sym c.requires.1 ∙ sym (ap (λ h. slice_get h.instances n) c.self.view_is) ∙ instance_there es n i c.index_mut-instance.ensures.value) in
    ap (λ (j : Instance). is_open c.args.activity.now j.node) (sym same) ∙ c.requires.3

pub set-requires : goal.set-requires
set-requires c =
    omega (
      arith,
      slice_get_within c.args.self.now.instances c.args.number c.requires.0 c.requires.1,
      ap (λ h. length h.instances) c.self.view_is,
      ap length c.self.invariant.waiting.own,
      length-map (instances_in c.self.inside.machines.entries) (λ i. alarm_of i.node),
    )

pub invariant_of-self : goal.invariant_of-self
invariant_of-self c =
    let es = c.self.inside.machines.entries in
    let n = c.args.number in
    let i = c.index_mut-instance.result.now in
    let j = c.answer.new.instance in
    let there : slice_get (instances_in es) n ≡ Some i = instance_there es n i c.index_mut-instance.ensures.value in
    let own : slice_get (ids (instances_in es)) n ≡ Some j.id =
    slice_get-map (λ i. i.id) (instances_in es) n ∙ ap (option_map (λ i. i.id)) there ∙ ap (λ id. Some id) (sym (ap (λ j. j.id) c.answer.ensures)) in
    rw (c.set.ensures.moments, c.alarm.ensures)
    (kept_put es c.self.inside.moment n c.self.inside.queue c.put.new.self c.self.inside.alarms.moments c.self.inside.listeners.wanted c.self.inside.stale c.put-2.new.self j c.self.invariant own c.put.ensures.among c.put.ensures.count
    (noted_stale (instances_in es) c.self.inside.listeners.wanted c.self.inside.stale c.put-2.new.self n j c.self.invariant.listening c.put-2.ensures.among c.put-2.ensures.count))

pub returns-clause-instances : goal.returns-clause-instances
returns-clause-instances c =
    let es = c.self.inside.machines.entries in
    let n = c.args.number in
    let a = c.args.activity.now in
    let r = c.args.reply in
    let i = c.index_mut-instance.result.now in
    let there : slice_get (instances_in es) n ≡ Some i = instance_there es n i c.index_mut-instance.ensures.value in
    let same : c.requires.0 ≡ i = same_Some c.requires.0 i (sym c.requires.1 ∙ sym (ap (λ h. slice_get h.instances n) c.self.view_is) ∙ there) in
    ap (λ j. instances_in (set_value_at es n j)) c.answer.ensures
    ∙ set_put es n (record i { node = with_reply a r i.node })
    ∙ replied_put a r es n i c.self.invariant.held.placed c.self.invariant.held.apart there (ap (λ (j : Instance). is_of a j.id) (sym same) ∙ c.requires.2)
    ∙ ap (λ h. map (replied_one a r) h.instances) c.self.view_is
