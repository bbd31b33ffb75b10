-- The least moment that a strand waits for.
use Rattle.std.specs.List.{reduce}
use Rattle.std.specs.Prelude.{ℕ, List, Option, Some, None, min}
use Rattle.swf_meaning.specs.Node.{Node}
use Rattle.swf_meaning.specs.Wake.{waits}
use Rattle.swf_stack.specs.declared.made.Top.{Top}
use Rattle.swf_stack.specs.declared.made.Top.TheVariants as tops

-- of all strands of a node; none where no strand waits
abbrev pub alarm_of : Node → Option ℕ
alarm_of n = reduce min (waits n)

-- the lesser of two moments; the other, where there is one alone
abbrev pub earlier : Option ℕ → Option ℕ → Option ℕ
earlier None o = o
earlier (Some m) None = Some m
earlier (Some m) (Some n) = Some (min m n)

-- the moment that a strand waits for on which this stands innermost
abbrev pub until_in_top : Top → Option ℕ
until_in_top (tops.Waiting r n m) = Some m
until_in_top t = None
