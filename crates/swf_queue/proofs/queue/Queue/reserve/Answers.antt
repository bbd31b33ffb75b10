use Rattle.std.proofs.Common.{arith}
use Rattle.swf_queue.proofs.FlagLemmas.{fits}
use Rattle.swf_queue.proofs.queue.Queue.reserve.Goals as goal

pub overflow_sub-capacity : goal.overflow_sub-capacity
overflow_sub-capacity c = omega (arith, fits c.self.inside.numbers.items c.self.inside.queued.items _ c.self.invariant, c.self.inside.numbers.ok, c.self.inside.queued.ok, c.reserve.new.self.ok)
