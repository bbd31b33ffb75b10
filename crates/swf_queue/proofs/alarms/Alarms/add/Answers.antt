use Rattle.std.proofs.Common.{◌≡◌, ◌++◌, ◌∷◌, [], None, ap, arith}
use Rattle.swf_queue.proofs.AlarmLemmas.{tournament_added}
use Rattle.swf_queue.proofs.alarms.Alarms.add.Goals as goal

pub invariant_of-self : goal.invariant_of-self
invariant_of-self c =
    let alarms : c.push.new.self.items ≡ c.self.inside.alarms.items ++ None ∷ [] = rw c.unwrap.ensures at c.push.ensures.items in
    rw alarms (tournament_added c.self.inside.inner.items c.self.inside.alarms.items (omega (arith, c.requires, ap (λ a. a.room) c.self.view_is)) c.self.invariant)
