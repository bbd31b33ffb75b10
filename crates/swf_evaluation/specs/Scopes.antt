-- The names that an expression is given.
use Rattle.std.specs.Prelude.{List, map, reverse}
use Rattle.swf_evaluation.specs.Outputs.{Scope}
use Rattle.swf_evaluation.specs.declared.vars.Variable.{Variable}

-- the names and values that are given, of which the last of a name counts
abbrev pub scope_from : List Variable → Scope
scope_from vs = map (λ x. (x.name, x.value)) (reverse vs)
