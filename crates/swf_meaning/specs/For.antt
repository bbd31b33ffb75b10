-- A `for` begins (DSL reference, "For").
use Rattle.std.specs.Prelude.{zero, codes, Result}
use Rattle.swf_value.specs.Members.{values_of}
use Rattle.swf_value.specs.Value.{Value, list}
use Rattle.swf_document.specs.Task.{Loop}
use Rattle.swf_document.specs.declared.error.ErrorKind.TheVariants as kinds
use Rattle.swf_document.specs.declared.error.Problem.{Problem}
use Rattle.swf_templates.specs.Fill.{first_of}
use Rattle.swf_meaning.specs.Complete.{Stepped}
use Rattle.swf_meaning.specs.Line.{Line, within}
use Rattle.swf_meaning.specs.Lists.{iteration}
use Rattle.swf_meaning.specs.Node.{Running}
use Rattle.swf_meaning.specs.Rule.{◌>>=◌, fails, value_of}

-- over the items of a list; any other value is an error
abbrev pub over : Line → Running → Value → Result Stepped Problem
over l r (list xs) = iteration l r (values_of xs) zero r.input
over l r x = fails r.task kinds.Expression (codes "cannot loop")

-- `in` is asked on the transformed input
abbrev pub looping : Line → Running → Loop → Result Stepped Problem
looping l r spec = do
  items ← value_of r.task (first_of spec.items (within l r) r.input)
  over l r items
