-- Until when a strand waits, and how it goes on then (DSL reference, "Wait" and "Retry").
use Rattle.std.specs.Prelude.{ℕ, zero, List, Bool, nat_le, filter_map, Option, Some, None, Result, if◌then◌else◌}
use Rattle.std.specs.List.{list_any}
use Rattle.swf_document.specs.declared.error.Problem.{Problem}
use Rattle.swf_meaning.specs.Complete.{Stepped, complete}
use Rattle.swf_meaning.specs.Line.{Line, Site}
use Rattle.swf_meaning.specs.Lists.{comes_to}
use Rattle.swf_meaning.specs.Node.{Node, Try, Running}
use Rattle.swf_meaning.specs.Strands.{tops}
use Rattle.swf_meaning.specs.Top.{Top, Retries, Sleeps}

-- once its moment has come
abbrev pub when_due : Site → ℕ → Result Stepped Problem → Option (Result Stepped Problem)
when_due s until m = if nat_le until s.now then Some m else None

-- Wake: a `wait` is complete
abbrev pub woken : Site → Line → Running → ℕ → Option (Result Stepped Problem)
woken s l r until = when_due s until (complete l r r.input)

-- Wake: a `try` is made again
abbrev pub again : Site → Line → Running → ℕ → ℕ → Option (Result Stepped Problem)
again s l r n until = when_due s until (comes_to l r (Try n) zero r.input)

-- the moment that a top waits for
abbrev pub until_top : Top → Option ℕ
until_top (Retries r n until) = Some until
until_top (Sleeps r until) = Some until
until_top t = None

-- the moments that strands wait for, ascending by strand
abbrev pub waits : Node → List ℕ
waits n = filter_map (λ s. until_top s.1) (tops n)

-- a wait ends at a moment, or before it
abbrev pub is_due : ℕ → Node → Bool
is_due moment n = list_any (λ m. nat_le m moment) (waits n)
