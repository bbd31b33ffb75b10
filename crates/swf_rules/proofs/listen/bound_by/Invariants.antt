use Rattle.std.proofs.Common.{◌≡◌, drop}
use Rattle.swf_meaning.specs.Listen.{bound_by}
use Rattle.swf_rules.proofs.listen.bound_by.Given as goal

-- the other correlations decide
abbrev pub invariant-loop-correlation : goal.invariant-loop-correlation
invariant-loop-correlation l =
    let r = l.rule.running.now in
    bound_by r.task l.vars r.input (drop l.correlation-index l.correlations) l.bound ≡ bound_by r.task l.vars r.input l.correlations l.fn.bound
