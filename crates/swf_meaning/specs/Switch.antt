-- Which case of a `switch` is taken (DSL reference, "Switch").
use Rattle.std.specs.Prelude.{List, [], ◌∷◌, Bool, false, Option, Some, None, Result, Ok, if◌then◌else◌}
use Rattle.swf_expr.specs.Expr.{Tree}
use Rattle.swf_document.specs.Task.{Task}
use Rattle.swf_document.specs.declared.common.Flow.{Flow}
use Rattle.swf_document.specs.declared.common.Case.{Case}
use Rattle.swf_document.specs.declared.error.Problem.{Problem}
use Rattle.swf_meaning.specs.Complete.{Stepped, asked, complete_by}
use Rattle.swf_meaning.specs.Line.{Line, within}
use Rattle.swf_meaning.specs.Node.{Running}
use Rattle.swf_meaning.specs.Parts.{common_of}
use Rattle.swf_meaning.specs.Rule.{◌>>=◌}

abbrev pub or_first : Option Tree → Case → Option Case → Option Case
or_first None c found = Some c
or_first (Some e) c found = found

-- the first case without `when`
abbrev pub default_of : List Case → Option Case
default_of [] = None
default_of (c ∷ cs) = or_first c.cond c (default_of cs)

abbrev pub or_own : Flow → Option Flow → Flow
or_own own None = own
or_own own (Some f) = f

-- where control goes by a case, which stands in place of the task's own `then` where it has one
abbrev pub flow_by : Task → Option Case → Flow
flow_by t None = (common_of t).flow
flow_by t (Some c) = or_own (common_of t).flow c.flow

-- a case is taken whose `when` is true
abbrev pub is_taken : Line → Running → Option Tree → Result Bool Problem
is_taken l r None = Ok false
is_taken l r (Some e) = asked r.task (within l r) r.input e

-- the first case that is taken, and else the first without `when`
abbrev pub taken : Line → Running → Option Case → List Case → Result (Option Case) Problem
taken l r default [] = Ok default
taken l r default (c ∷ cs) = do
  b ← is_taken l r c.cond
  if b then Ok (Some c) else taken l r default cs

-- the task is complete, and control goes by that case
abbrev pub switched : Line → Running → List Case → Result Stepped Problem
switched l r cs = do
  c ← taken l r (default_of cs) cs
  complete_by l r (flow_by r.task c) r.input
