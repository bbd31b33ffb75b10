-- The names that stand where an expression is evaluated.
use Rattle.std.specs.Prelude.{◌∷◌}
use Rattle.swf_expr.specs.Expr.{Tree}
use Rattle.swf_evaluation.specs.Scopes.{scope_from}
use Rattle.swf_jq_eval.specs.declared.scope.Scope.{Scope as Names}
use Rattle.swf_jq_eval.specs.declared.scope.Scope.TheVariants.{Given, Bind'}
use Rattle.swf_jq_eval.specs.declared.scope.Context.{Context}
use Rattle.swf_evaluation.specs.Outputs.{Scope, run}
use Rattle.swf_evaluation.specs.Run.{Run}

abbrev pub scope_of : Names → Scope
scope_of (Given vs) = scope_from vs.now
scope_of (Bind' x v p s) = (x.now, v.now) ∷ scope_of s

abbrev pub names : Context → Scope
names c = scope_of c.scope.now

-- what an expression gives where it is evaluated
abbrev pub run_at : Tree → Context → Run
run_at e c = run e (names c) c.input.now
