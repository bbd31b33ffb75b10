use Rattle.std.proofs.Common.{◌≡◌, ◌||◌, [], false, get_or}
use Rattle.std.specs.Option.{option_map_or}
use Rattle.swf_listeners.specs.Listeners.{numbers_where}
use Rattle.swf_listeners.proofs.listeners.numbers.Given as goal

abbrev pub invariant-loop-number : goal.invariant-loop-number
invariant-loop-number l = l.numbers.items ≡ numbers_where (λ n. get_or l.any n false || get_or (option_map_or (λ v. v.now.items) l.flags []) n false) l.number
