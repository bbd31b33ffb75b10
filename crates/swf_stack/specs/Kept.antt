-- What a context that changed does to the tasks around (DSL, "Runtime expression arguments"; DSL reference, "Run").
use Rattle.std.specs.Prelude.{List, [], ◌∷◌, Option, Some, None, option_map, if◌then◌else◌}
use Rattle.swf_value.specs.Value.{Value}
use Rattle.swf_catalog.specs.Rounds.{is_sub, keeping_in}
use Rattle.swf_stack.specs.declared.made.Frame.{Frame}

abbrev pub keeping_frame : Frame → Value → Frame
keeping_frame f c = record f { round = keeping_in f.round c }

-- running tasks, the innermost first, where the innermost sub-workflow keeps a context; none where there is no sub-workflow
abbrev pub kept_by : List Frame → Value → Option (List Frame)
kept_by [] c = None
kept_by (f ∷ fs) c = if is_sub f.round then Some (keeping_frame f c ∷ fs) else option_map (λ gs. f ∷ gs) (kept_by fs c)

abbrev pub kept_or : List Frame → Option (List Frame) → List Frame
kept_or fs None = fs
kept_or fs (Some gs) = gs

-- the running tasks behind a step that may change the context
abbrev pub kept : List Frame → Option Value → List Frame
kept fs None = fs
kept fs (Some c) = kept_or fs (kept_by fs c)

-- and the context of the instance, where it changes: no sub-workflow is around
abbrev pub unless_kept : Value → Option (List Frame) → Option Value
unless_kept c None = Some c
unless_kept c (Some gs) = None

abbrev pub context_kept : List Frame → Option Value → Option Value
context_kept fs None = None
context_kept fs (Some c) = unless_kept c (kept_by fs c)
