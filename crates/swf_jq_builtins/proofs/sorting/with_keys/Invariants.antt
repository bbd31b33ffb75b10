use Rattle.std.proofs.Common.{◌≡◌, ◌++◌}
use Rattle.std.specs.Prelude.{zip}
use Rattle.swf_jq_builtins.proofs.sorting.with_keys.Given as goal

abbrev pub invariant-loop-pair : goal.invariant-loop-pair
invariant-loop-pair l = l.pairs.items ++ zip l.pair-iterator.a.rest.items l.pair-iterator.b.rest.items ≡ zip l.fn.keys.items l.fn.values.items
