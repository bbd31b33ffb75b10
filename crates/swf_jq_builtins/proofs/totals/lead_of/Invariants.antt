use Rattle.std.proofs.Common.{◌≡◌, drop}
use Rattle.swf_evaluation.specs.Builtins.{lead}
use Rattle.swf_jq_builtins.proofs.totals.lead_of.Given as goal

abbrev pub invariant-loop-value : goal.invariant-loop-value
invariant-loop-value l = lead (drop l.value-index l.values) ≡ lead l.values
