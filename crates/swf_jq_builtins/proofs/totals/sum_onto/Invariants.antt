use Rattle.std.proofs.Common.{◌≡◌, drop}
use Rattle.swf_evaluation.specs.Builtins.{summed}
use Rattle.swf_jq_builtins.specs.Drafts.{drafted}
use Rattle.swf_jq_builtins.proofs.totals.sum_onto.Given as goal

abbrev pub invariant-loop-value : goal.invariant-loop-value
invariant-loop-value l = summed (drafted l.draft) (drop l.value-index l.values) ≡ summed (drafted l.fn.draft) l.values
