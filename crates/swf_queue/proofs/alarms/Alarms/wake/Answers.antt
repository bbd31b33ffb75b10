use Rattle.std.proofs.Common.{◌∙◌, ◌||◌, ap}
use Rattle.swf_queue.specs.Alarms.{is_due}
use Rattle.swf_queue.specs.Queue.{is_among}
use Rattle.swf_queue.proofs.AlarmLemmas.{woken_exactly}
use Rattle.swf_queue.proofs.alarms.Alarms.wake.Goals as goal

pub returns-clause-numbers : goal.returns-clause-numbers
returns-clause-numbers c = λ n.
    woken_exactly c.args.moment c.deref.result.now c.deref-2.result.now c.args.queue.now.numbers c.wake_below.new.queue.numbers
    (rw (c.deref.ensures.value, c.deref-2.ensures.value) c.self.invariant) c.wake_below.ensures.only c.wake_below.ensures.woken c.wake_below.ensures.front n
    ∙ ap (λ l. is_among n c.args.queue.now.numbers || is_due c.args.moment l n) (c.deref-2.ensures.value ∙ ap (λ a. a.moments) c.self.view_is)
