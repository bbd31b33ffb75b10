-- What is done with an output of an expression where other expressions are evaluated for it.
use Rattle.std.specs.Prelude.{◌∷◌, if◌then◌else◌}
use Rattle.std.specs.Option.{option_map_or}
use Rattle.swf_evaluation.specs.Operations.{is_true, index_of, operate}
use Rattle.swf_value.specs.Value.{Value}
use Rattle.swf_jq_eval.specs.declared.inner.Inner.{Inner}
use Rattle.swf_jq_eval.specs.declared.inner.Inner.TheVariants as inners
use Rattle.swf_jq_eval.specs.declared.scope.Context.{Context}
use Rattle.swf_jq_eval.specs.Names.{names, run_at}
use Rattle.swf_evaluation.specs.Outputs.{run, ranged}
use Rattle.swf_evaluation.specs.Run.{Run, gives, made_of, answered, over, decides}
use Rattle.swf_jq_eval.specs.Steps.{truth}

-- what is made of an output where the expressions are evaluated
abbrev pub inside : Inner → Context → Value → Run
inside (inners.Index e) c y = over (run_at e.now c) (λ x. answered (index_of x y))
inside (inners.Pipe e) c y = run e.now (names c) y
inside (inners.Decide b e) c y = decides b y (over (run_at e.now c) truth)
inside (inners.Operate o e) c y = over (run_at e.now c) (λ x. made_of (operate o x y))
inside (inners.Choose e f) c y = if is_true y then run_at e.now c else option_map_or (λ e. run_at e c) f.now (gives c.input.now)
inside (inners.Bind x e) c y = run e.now ((x.now, y) ∷ names c) c.input.now
inside (inners.RangeTo e) c y = over (run_at e.now c) (λ x. ranged y x)
