-- What is done with an output of an expression.
use Rattle.std.specs.Prelude.{if◌then◌else◌}
use Rattle.swf_evaluation.specs.Operations.{is_true, index_of, parts_of, operate, negated}
use Rattle.swf_evaluation.specs.Builtins.{with_one}
use Rattle.swf_value.specs.Value.{Value, boolean}
use Rattle.swf_jq_eval.specs.declared.steps.Step.{Step}
use Rattle.swf_jq_eval.specs.declared.steps.Step.TheVariants as steps
use Rattle.swf_evaluation.specs.Run.{Run, none, raises, turn, made, made_of, answered, spread}
use Rattle.swf_evaluation.specs.Outputs.{ranged}

-- whether a value is true
abbrev pub truth : Value → Run
truth y = made (boolean (is_true y))

-- what a step makes of an input and an output
abbrev pub taken : Step → Value → Value → Run
taken steps.Iterate v y = spread (parts_of y)
taken steps.Negate v y = made_of (negated y)
taken steps.Truth v y = truth y
taken steps.Select v y = if is_true y then made v else none
taken steps.Raise v y = raises y
taken (steps.Index k) v y = answered (index_of y k.now)
taken steps.Member v y = turn (answered (index_of v y))
taken (steps.Operate o w) v y = made_of (operate o y w.now)
taken (steps.RangeFrom a) v y = ranged a.now y
taken (steps.Apply b) v y = made_of (with_one b v y)
