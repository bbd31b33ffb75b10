use Rattle.std.proofs.Common.{◌≡◌, ◌∙◌, ◌||◌, ℕ, ap, sym, subst, length}
use Rattle.std.proofs.lemmas.List.{length-map}
use Rattle.swf_strands.specs.Alarm.{alarm_of}
use Rattle.swf_queue.specs.Alarms.{is_due}
use Rattle.swf_queue.specs.Queue.{is_among}
use Rattle.swf_instances.specs.Held.{instances_in}
use Rattle.swf_instances.proofs.WaitLemmas.{queued_woken}
use Rattle.swf_instances.proofs.instances.Instances.reach.Goals as goal

pub wake-requires : goal.wake-requires
wake-requires c = c.self.invariant.waiting.count ∙ sym (ap length c.self.invariant.waiting.own ∙ length-map (instances_in c.self.inside.machines.entries) (λ i. alarm_of i.node))

pub invariant_of-self : goal.invariant_of-self
invariant_of-self c =
    let alarms = c.self.inside.alarms.moments in
    let queue = c.self.inside.queue.numbers in
    let next = c.wake.new.queue.numbers in
    let woken = subst (λ m. (n : ℕ) → is_among n next ≡ (is_among n queue || is_due m alarms n)) c.milliseconds.ensures.value c.wake.ensures.numbers in
    record {
      held = c.self.invariant.held;
      waiting = record {
        queued = queued_woken c.self.inside.moment c.args.moment (instances_in c.self.inside.machines.entries) queue next alarms c.self.invariant.waiting.own woken c.self.invariant.waiting.queued;
        count = c.wake.ensures.count ∙ c.self.invariant.waiting.count;
        own = c.self.invariant.waiting.own;
      };
      listening = c.self.invariant.listening;
    }
