use Rattle.std.proofs.Common.{subst, sym, arith}
use Rattle.std.proofs.Math.ListN.{set}
use Rattle.std.proofs.Common.{false}
use Rattle.swf_queue.specs.Queue.{AreFlagged}
use Rattle.swf_queue.proofs.FlagLemmas.{first_flagged, flagged_left}
use Rattle.swf_queue.proofs.queue.Queue.leave.Goals as goal

pub index_mut-requires : goal.index_mut-requires
index_mut-requires c =
    omega (arith, c.self.inside.queued.ok.0, first_flagged c.self.inside.numbers.items c.pop_front.new.self.items c.self.inside.queued.items _ c.in-Some.number c.in-Some.ensures.items c.self.invariant)

pub invariant_of-self : goal.invariant_of-self
invariant_of-self c =
    subst (AreFlagged c.pop_front.new.self.items (set c.self.inside.queued.items c.in-Some.number false)) (sym c.in-Some.ensures.capacity)
    (flagged_left c.self.inside.numbers.items c.pop_front.new.self.items c.self.inside.queued.items _ c.in-Some.number c.in-Some.ensures.items c.self.invariant)
