use Rattle.std.proofs.Common.{◌≡◌, drop}
use Rattle.swf_meaning.specs.Switch.{default_of, taken}
use Rattle.swf_rule.specs.Rules.{line_in}
use Rattle.swf_rules.proofs.switch.switched.Given as goal

-- the other cases decide
abbrev pub invariant-loop-case : goal.invariant-loop-case
invariant-loop-case l =
    taken (line_in l.rule) l.rule.running.now (default_of l.cases) (drop l.case-index l.cases) ≡ taken (line_in l.rule) l.rule.running.now (default_of l.cases) l.cases
