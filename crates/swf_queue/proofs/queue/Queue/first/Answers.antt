use Rattle.std.proofs.Common.{subst, ◌<◌, ◌≡◌, ℕ, true}
use Rattle.swf_queue.specs.Queue.{is_among}
use Rattle.swf_queue.proofs.FlagLemmas.{known}
use Rattle.swf_queue.proofs.queue.Queue.first.Goals as goal

pub returns-clause-known : goal.returns-clause-known
returns-clause-known c = subst (λ l. (n : ℕ) → is_among n l.numbers ≡ true → n < l.count) c.self.view_is (known c.self.inside.numbers.items c.self.inside.queued.items _ c.self.invariant)
