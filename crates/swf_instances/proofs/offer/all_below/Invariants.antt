use Rattle.std.proofs.Common.{◌≡◌, true}
use Rattle.swf_listeners.specs.Listeners.{numbers_where}
use Rattle.swf_instances.proofs.offer.all_below.Given as goal

abbrev pub invariant-loop-number : goal.invariant-loop-number
invariant-loop-number l = l.numbers.items ≡ numbers_where (λ n. true) l.number
