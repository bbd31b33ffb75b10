use Rattle.std.proofs.Common.{subst, sym}
use Rattle.swf_queue.specs.Queue.{AreFlagged}
use Rattle.swf_queue.proofs.FlagLemmas.{flagged_turned}
use Rattle.swf_queue.proofs.queue.Queue.rotate.Goals as goal

pub invariant_of-self : goal.invariant_of-self
invariant_of-self c =
    subst (AreFlagged c.rotate_left.new.self.items c.self.inside.queued.items) (sym c.rotate_left.ensures.capacity)
    (flagged_turned c.self.inside.numbers.items c.rotate_left.new.self.items c.self.inside.queued.items _ c.rotate_left.ensures.permutation c.self.invariant)
