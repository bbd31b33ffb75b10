use Rattle.std.proofs.Common.{◌≡◌, drop}
use Rattle.swf_value.specs.Value.{no_members}
use Rattle.swf_meaning.specs.Listen.{bound_by, correlations}
use Rattle.swf_rules.proofs.listen.bound_of.Given as goal

-- the other filters decide
abbrev pub invariant-loop-filter : goal.invariant-loop-filter
invariant-loop-filter l =
    let r = l.rule.running.now in
    bound_by r.task l.vars r.input (correlations (drop l.filter-index l.filters)) l.bound ≡ bound_by r.task l.vars r.input (correlations l.filters) no_members
