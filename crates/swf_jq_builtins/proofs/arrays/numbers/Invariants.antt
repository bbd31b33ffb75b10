use Rattle.std.proofs.Common.{◌≡◌, ◌++◌, ◌-◌, ◌+ℤ◌, pos}
use Rattle.swf_evaluation.specs.Builtins.{numbers_from}
use Rattle.swf_jq_builtins.proofs.arrays.numbers.Given as goal

abbrev pub invariant-loop : goal.invariant-loop
invariant-loop l = (l.values.items ++ numbers_from l.next (l.count - l.counter) ≡ numbers_from l.first l.count) × (l.next ≡ l.first +ℤ pos l.counter)
