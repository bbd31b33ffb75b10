use Rattle.std.proofs.Common.{◌≡◌, drop}
use Rattle.swf_value.specs.Value.{null}
use Rattle.swf_evaluation.specs.Builtins.{summed}
use Rattle.swf_jq_builtins.proofs.totals.sum_one_by_one.Given as goal

abbrev pub invariant-loop-value : goal.invariant-loop-value
invariant-loop-value l = summed (l.total) (drop l.value-index l.values) ≡ summed (null) l.values
