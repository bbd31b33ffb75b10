-- What a strand holds, as the tasks that run on it and what stands innermost.
use Rattle.std.specs.Prelude.{List, [], ◌∷◌, ◌++◌}
use Rattle.swf_value.specs.Value.{null}
use Rattle.swf_document.specs.declared.common.Flow.TheVariants.{Continue}
use Rattle.swf_stack.specs.declared.made.Frame.{Frame}
use Rattle.swf_stack.specs.declared.made.Stand.{Stand}
use Rattle.swf_stack.specs.declared.made.Top.{Top}
use Rattle.swf_stack.specs.declared.made.Top.TheVariants as tops

-- running tasks from the outermost on, of which the first is the innermost
abbrev pub inward : List Frame → List Frame
inward [] = []
inward (f ∷ fs) = inward fs ++ f ∷ []

-- the tasks that run, the outermost first
abbrev pub frames_of : List Stand → List Frame
frames_of [] = []
frames_of (s ∷ ss) = inward s.around

-- what stands innermost; a strand never holds nothing
abbrev pub top_of : List Stand → Top
top_of [] = tops.Done null Continue
top_of (s ∷ ss) = s.top
