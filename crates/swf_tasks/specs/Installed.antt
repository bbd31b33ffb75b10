-- Which tasks stand around the part that takes a step, and what they become.
use Rattle.std.specs.Prelude.{◌≡◌, List, [], ◌∷◌, Option, Some, None, Result}
use Rattle.swf_value.specs.Value.{Value}
use Rattle.swf_document.specs.declared.error.Problem.{Problem}
use Rattle.swf_meaning.specs.Complete.{Stepped, step_of}
use Rattle.swf_meaning.specs.Local.{local}
use Rattle.swf_meaning.specs.Node.{Node, Fresh, Live, Done, Fault}
use Rattle.swf_meaning.specs.Line.{Line, Site}
use Rattle.swf_scene.specs.Halts.{Makes}
use Rattle.swf_scene.specs.declared.halt.Halt.{Halt}
use Rattle.swf_catalog.specs.Rounds.{round_of}
use Rattle.swf_meaning.specs.Around.{seen}
use Rattle.swf_meaning.specs.Put.{put_back}
use Rattle.swf_stack.specs.Stack.{plug, seen_in, stepped_of, top_node}
use Rattle.swf_stack.specs.Stands.{inward}
use Rattle.swf_stack.specs.declared.made.Frame.{Frame}
use Rattle.swf_stack.specs.declared.made.Made.{Made}
use Rattle.swf_stack.specs.declared.made.Stand.{Stand}
use Rattle.swf_stack.specs.declared.made.Top.{Top}
use Rattle.swf_stack.specs.declared.made.Top.TheVariants as tops

-- those behind the innermost
abbrev pub behind : List Frame → List Frame
behind [] = []
behind (f ∷ fs) = fs

-- of running tasks, the innermost first, those around the part that takes a step: all where that has not begun or waits, and else all
-- but the innermost
abbrev pub outer : Top → List Frame → List Frame
outer (tops.Fresh t v) fs = fs
outer (tops.Done w g) fs = behind fs
outer (tops.Fault p) fs = behind fs
outer (tops.Waiting r n m) fs = fs
outer (tops.Hearing r bound hs) fs = fs
outer (tops.Awaiting r a q o) fs = fs
outer (tops.Forked r) fs = fs

-- a step with these tasks around it, the outermost first
abbrev pub put_in : Line → List Frame → Stepped → Stepped
put_in l [] m = m
put_in l (f ∷ fs) m = put_back l f.running (round_of f.round) f.place (put_in (seen l f.running.task (round_of f.round)) fs m)

-- what stands on a strand alone
abbrev pub own_node : Stand → Node
own_node h = plug (inward h.around) (top_node h.top)

-- the step of what stands innermost, which goes by the line inside all around it
abbrev pub IsStep : Site → Line → Stand → Made → Type 0
IsStep s l h m = local s l [] (own_node h) ≡ Some (put_in l (inward (outer h.top h.around)) (stepped_of (seen_in l (inward (outer h.top h.around))) m))

-- what stands innermost goes by that line, where the strand goes by this one
abbrev pub IsSeen : Line → Line → Stand → Type 0
IsSeen l z h = z ≡ seen_in l (inward (outer h.top h.around))

-- a rule gives this by that line, and makes the step
abbrev pub IsRuled : Site → Line → Line → Stand → Result Made Halt → Type 0
IsRuled s l z h given = (g : Result Stepped Problem) × (Makes z g given × (local s l [] (own_node h) ≡ Some (put_in l (inward (outer h.top h.around)) (step_of z g))))

-- the output of an instance that is done
abbrev pub output_in : Node → Option Value
output_in (Fresh t v) = None
output_in (Live r k) = None
output_in (Done w f) = Some w
output_in (Fault p) = None

-- the error of an instance that ended in one
abbrev pub problem_in : Node → Option Problem
problem_in (Fresh t v) = None
problem_in (Live r k) = None
problem_in (Done w f) = None
problem_in (Fault p) = Some p
