-- The rules by which a strand takes one step (DSL, "Concepts", "Flow directives", "Fault tolerance").
use Rattle.std.specs.Prelude.{ℕ, List, Bool, Option, Some, None, option_map, option_and_then, Result, Err}
use Rattle.std.specs.List.{list_any}
use Rattle.swf_value.specs.Value.{Value}
use Rattle.swf_document.specs.declared.common.Flow.{Flow}
use Rattle.swf_document.specs.declared.error.Problem.{Problem}
use Rattle.swf_meaning.specs.Call.{replied}
use Rattle.swf_meaning.specs.Complete.{Stepped, step_of}
use Rattle.swf_meaning.specs.Enter.{enter}
use Rattle.swf_meaning.specs.Line.{Line, Site}
use Rattle.swf_meaning.specs.Listen.{heard}
use Rattle.swf_meaning.specs.Lists.{list_of, goes_to}
use Rattle.swf_meaning.specs.Next.{next}
use Rattle.swf_meaning.specs.Node.{Node, Round, Seq, Each, Try, Catch, Fun, Sub, Running}
use Rattle.swf_meaning.specs.Parts.{Catching, kind_of, try_in}
use Rattle.swf_meaning.specs.Put.{put_at}
use Rattle.swf_meaning.specs.Strands.{tops, can_top}
use Rattle.swf_meaning.specs.Top.{Top, Begins, Moves, Fails, Retries, Sleeps, Hears, Awaits, Splits, Ends, Breaks, top_at, line_at}
use Rattle.swf_meaning.specs.Try.{caught}
use Rattle.swf_meaning.specs.Wake.{woken, again}

-- Next: a task of the list is done
abbrev pub moved_on : Line → Running → Round → ℕ → Value → Flow → Result Stepped Problem
moved_on l r round i w f = goes_to l r round w (next (list_of r.task round) i f)

abbrev pub caught_by : Site → Line → Running → ℕ → Problem → Option Catching → Result Stepped Problem
caught_by s l r n p None = Err p
caught_by s l r n p (Some c) = caught s l r n p c.errors c.handler

-- an error of the list: the attempt of a `try` may catch it, and it ends any other task
abbrev pub failed : Site → Line → Running → Round → Problem → Result Stepped Problem
failed s l r Seq p = Err p
failed s l r (Each items j) p = Err p
failed s l r (Try n) p = caught_by s l r n p (try_in (kind_of r.task))
failed s l r (Catch q) p = Err p
failed s l r Fun p = Err p
failed s l r (Sub d v c) p = Err p

-- Enter, Next, Catch and Pass up, and Wake: the rule that applies to the top of a strand; none where it waits on, splits or is over
abbrev pub rule : Site → Line → Top → Option (Result Stepped Problem)
rule s l (Begins t v) = Some (enter s l t v)
rule s l (Moves r round i w f) = Some (moved_on l r round i w f)
rule s l (Fails r round i p) = Some (failed s l r round p)
rule s l (Retries r n until) = again s l r n until
rule s l (Sleeps r until) = woken s l r until
rule s l (Hears r bound hs) = heard l r hs
rule s l (Awaits r a q o) = replied l r q o
rule s l (Splits r ns) = None
rule s l (Ends w f) = None
rule s l (Breaks p) = None

-- the step of a strand by the rule of its top, and Settle behind that of a branch; none where no rule applies
abbrev pub local : Site → Line → List ℕ → Node → Option Stepped
local s l bs n = let z = line_at l bs n in option_map (λ m. put_at l bs n (step_of z m)) (option_and_then (rule s z) (top_at bs n))

-- some strand can take a step at a moment
abbrev pub is_enabled : ℕ → Node → Bool
is_enabled now n = list_any (λ s. can_top now s.1) (tops n)
