use Rattle.std.proofs.Common.{◌≡◌, drop}
use Rattle.swf_templates.specs.Filter.{bind_all}
use Rattle.swf_transform.proofs.correlation.bind_all.Given as goal

abbrev pub invariant-loop-correlation : goal.invariant-loop-correlation
invariant-loop-correlation l =
    bind_all (drop l.correlation-index l.correlations) l.envelope l.bound ≡ bind_all l.correlations l.envelope l.fn.bound
