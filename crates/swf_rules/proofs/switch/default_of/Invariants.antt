use Rattle.std.proofs.Common.{◌≡◌, drop}
use Rattle.swf_meaning.specs.Switch.{default_of}
use Rattle.swf_rules.proofs.switch.default_of.Given as goal

abbrev pub invariant-loop-case : goal.invariant-loop-case
invariant-loop-case l = default_of (drop l.case-index l.cases) ≡ default_of l.cases
