-- What the tasks inside a task see besides what it sees itself (DSL reference, "For" and "Catch").
use Rattle.std.specs.Prelude.{◌+◌, ℕ, pos, List, [], ◌∷◌, ◌++◌, slice_get, Option, Some, None}
use Rattle.swf_value.specs.Value.{Value, int}
use Rattle.swf_evaluation.specs.declared.vars.Variable.{Variable}
use Rattle.swf_document.specs.Errors.{problem_value}
use Rattle.swf_document.specs.Task.{Task, Kind, Loop}
use Rattle.swf_document.specs.declared.error.Problem.{Problem}
use Rattle.swf_meaning.specs.Node.{Round, Seq, Each, Try, Catch, Fun, Sub}
use Rattle.swf_meaning.specs.Parts.{Catching, kind_of, loop_in, try_in}
use Rattle.swf_meaning.specs.Line.{Line, variable}

-- the item and its position
abbrev pub iteration_variables : Loop → ℕ → Option Value → List Variable
iteration_variables l j None = []
iteration_variables l j (Some x) = variable l.each x ∷ variable l.at (int (pos j)) ∷ []

abbrev pub iteration_seen : Option Loop → List Value → ℕ → List Variable
iteration_seen None items j = []
iteration_seen (Some l) items j = iteration_variables l j (slice_get items j)

-- the error, by the name that the `try` gives it
abbrev pub error_seen : Option Catching → Problem → List Variable
error_seen None p = []
error_seen (Some c) p = variable c.errors.name (problem_value p) ∷ []

-- the variables of a round: of a `for` the item and its position, and of a handler the error
abbrev pub round_variables : Kind → Round → List Variable
round_variables k Seq = []
round_variables k (Each items j) = iteration_seen (loop_in k) items j
round_variables k (Try n) = []
round_variables k (Catch p) = error_seen (try_in k) p
round_variables k Fun = []
round_variables k (Sub d v c) = []

-- what is around a call is not seen inside; a sub-workflow has a document, a raw input and a context of its own
abbrev pub seen : Line → Task → Round → Line
seen l t Seq = record l { around = l.around ++ round_variables (kind_of t) Seq }
seen l t (Each items j) = record l { around = l.around ++ round_variables (kind_of t) (Each items j) }
seen l t (Try n) = record l { around = l.around ++ round_variables (kind_of t) (Try n) }
seen l t (Catch p) = record l { around = l.around ++ round_variables (kind_of t) (Catch p) }
seen l t Fun = record l { around = []; depth = l.depth + 1 }
seen l t (Sub d v c) = record l { document = d; input = v; context = c; around = []; depth = l.depth + 1 }
