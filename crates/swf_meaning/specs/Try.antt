-- What becomes of an error inside a `try` (DSL reference, "Try", "Catch" and "Retry"; DSL, "Fault tolerance").
use Rattle.std.specs.Prelude.{◌+◌, ℕ, zero, List, [], ◌∷◌, Bool, true, false, not, codes, nat_lt, Option, Some, None, Result, Ok, Err, if◌then◌else◌}
use Rattle.swf_text.specs.Same.{same}
use Rattle.swf_expr.specs.Expr.{Tree}
use Rattle.swf_value.specs.Value.{Value}
use Rattle.swf_evaluation.specs.declared.vars.Variable.{Variable}
use Rattle.swf_document.specs.Errors.{matches, problem_value}
use Rattle.swf_document.specs.Task.{Task, Handler, no_handler, handler, Catch as CatchSpec}
use Rattle.swf_document.specs.declared.document.NamedRetry.{NamedRetry}
use Rattle.swf_document.specs.declared.error.ErrorKind.TheVariants as kinds
use Rattle.swf_document.specs.declared.error.Problem.{Problem}
use Rattle.swf_document.specs.declared.retry.RetryPolicy.{RetryPolicy}
use Rattle.swf_document.specs.declared.retry.RetryRef.{RetryRef}
use Rattle.swf_document.specs.declared.retry.RetryRef.TheVariants as refs
use Rattle.swf_meaning.specs.Around.{seen}
use Rattle.swf_meaning.specs.Complete.{Stepped, becomes, asked, complete}
use Rattle.swf_meaning.specs.Line.{Line, Site, variable, of_task}
use Rattle.swf_meaning.specs.Lists.{comes_to}
use Rattle.swf_meaning.specs.Node.{Live, Later, Catch, Running}
use Rattle.swf_meaning.specs.Rule.{◌>>=◌, fails}

-- `exceptWhen` has to be false or absent
abbrev pub unless : Task → List Variable → Value → Option Tree → Result Bool Problem
unless t vars u None = Ok true
unless t vars u (Some e) = do
  b ← asked t vars u e
  Ok (not b)

-- `when` has to be true or absent, and then `exceptWhen` is asked
abbrev pub conditions : Task → List Variable → Value → Option Tree → Option Tree → Result Bool Problem
conditions t vars u None except = unless t vars u except
conditions t vars u (Some e) except = do
  b ← asked t vars u e
  if b then unless t vars u except else Ok false

-- what the conditions of a `catch` see
abbrev pub catching : Line → Running → Problem → List Variable
catching l r p = of_task (seen l r.task (Catch p)) r.task r.raw

-- those of a policy in `use.retries` see none of the variables around, and the error by the name `error`
abbrev pub retrying : Line → Running → Problem → List Variable
retrying l r p = of_task (record l { around = variable (codes "error") (problem_value p) ∷ [] }) r.task r.raw

-- so many retries were made, and the policy allows more
abbrev pub allows : Option ℕ → ℕ → Bool
allows None n = true
allows (Some m) n = nat_lt n m

-- the policy of a name in `use.retries`
abbrev pub retry_named : List ℕ → List NamedRetry → Option RetryPolicy
retry_named n [] = None
retry_named n (r ∷ rs) = if same r.name n then Some r.policy else retry_named n rs

abbrev pub or_unknown : Task → Option RetryPolicy → Result RetryPolicy Problem
or_unknown t None = fails t kinds.Configuration (codes "unknown retry")
or_unknown t (Some q) = Ok q

-- the policy is written there or has a name
abbrev pub policy_of : Line → Running → RetryRef → Result RetryPolicy Problem
policy_of l r (refs.Written q) = Ok q
policy_of l r (refs.Named n) = or_unknown r.task (retry_named n l.document.retries)

-- what its conditions see
abbrev pub policy_sees : Line → Running → Problem → RetryRef → List Variable
policy_sees l r p (refs.Written q) = catching l r p
policy_sees l r p (refs.Named n) = retrying l r p

-- after so many retries the policy allows one more
abbrev pub is_retried : Task → List Variable → Value → ℕ → RetryPolicy → Result Bool Problem
is_retried t vars u n q = if allows q.count n then conditions t vars u q.cond q.except else Ok false

-- what is done about an error: it passes, since it is not caught; the list is tried again after a delay; another list handles it;
-- it stays, since no retry is left; or it is given up, and the task is complete
pub data Verdict : Type 0 where
  Pass : Verdict
  Again : ℕ → Verdict
  Handle : Verdict
  Stay : Verdict
  Give : Verdict

-- an error that is not tried again, where there is a policy or not
abbrev pub untried : Handler → Bool → Verdict
untried (handler ts) b = Handle
untried no_handler true = Stay
untried no_handler false = Give

abbrev pub again_or : RetryPolicy → Handler → Bool → Verdict
again_or q h true = Again q.delay
again_or q h false = untried h true

-- an error that was caught
abbrev pub retried : Line → Running → ℕ → Problem → Handler → Option RetryRef → Result Verdict Problem
retried l r n p h None = Ok (untried h false)
retried l r n p h (Some ref) = do
  q ← policy_of l r ref
  b ← is_retried r.task (policy_sees l r p ref) r.input n q
  Ok (again_or q h b)

abbrev pub if_caught : Line → Running → ℕ → Problem → CatchSpec → Handler → Bool → Result Verdict Problem
if_caught l r n p c h true = retried l r n p h c.retry
if_caught l r n p c h false = Ok Pass

-- an error of the list after so many retries is caught where the filter matches and the conditions hold
abbrev pub verdict : Line → Running → ℕ → Problem → CatchSpec → Handler → Result Verdict Problem
verdict l r n p c h =
    if matches c.errors p
    then (conditions r.task (catching l r p) r.input c.cond c.except >>= if_caught l r n p c h)
    else Ok Pass

-- what the verdict leads to
abbrev pub by_verdict : Site → Line → Running → ℕ → Problem → Verdict → Result Stepped Problem
by_verdict s l r n p Pass = Err p
by_verdict s l r n p (Again delay) = Ok (becomes l (Live r (Later (n + 1) (s.now + delay))))
by_verdict s l r n p Handle = comes_to l r (Catch p) zero r.input
by_verdict s l r n p Stay = Err p
by_verdict s l r n p Give = complete l r r.input

-- Catch
abbrev pub caught : Site → Line → Running → ℕ → Problem → CatchSpec → Handler → Result Stepped Problem
caught s l r n p c h = do
  v ← verdict l r n p c h
  by_verdict s l r n p v
