-- What a strand goes on with once its moment has come.
use Rattle.std.specs.Prelude.{ℕ, zero, Option, Some, None, Result}
use Rattle.swf_document.specs.declared.error.Problem.{Problem}
use Rattle.swf_meaning.specs.Complete.{Stepped, complete}
use Rattle.swf_meaning.specs.Line.{Line}
use Rattle.swf_meaning.specs.Lists.{comes_to}
use Rattle.swf_meaning.specs.Node.{Try, Running}

-- a `wait` is complete, and a `try` is made again
abbrev pub woken_to : Line → Running → Option ℕ → Result Stepped Problem
woken_to l r None = complete l r r.input
woken_to l r (Some n) = comes_to l r (Try n) zero r.input
