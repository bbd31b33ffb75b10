-- What becomes of a `fork` one of whose branches ended.
use Rattle.std.specs.Prelude.{◌≡◌, Bool, Option, option_map, Some, None, Result, Ok, Err, if◌then◌else◌}
use Rattle.swf_value.specs.Value.{Value}
use Rattle.swf_document.specs.declared.common.Flow.TheVariants as flows
use Rattle.swf_document.specs.declared.error.Problem.{Problem}
use Rattle.swf_meaning.specs.Complete.{Stepped, becomes, complete}
use Rattle.swf_meaning.specs.Line.{Line}
use Rattle.swf_meaning.specs.Node.{Done, Running}
use Rattle.swf_stack.specs.Stack.{stepped_of}
use Rattle.swf_scene.specs.declared.halt.Halt.{Halt}
use Rattle.swf_scene.specs.declared.halt.Halt.TheVariants as halts
use Rattle.swf_stack.specs.declared.made.Made.{Made}
use Rattle.swf_stack.specs.declared.made.Top.{Top}
use Rattle.swf_stack.specs.declared.made.Top.TheVariants as tops

-- what ends the `fork`, where it ends
abbrev pub ending : Line → Running → Bool → Option Value → Top → Option (Result Stepped Problem)
ending l r compete outputs (tops.Fault p) = Some (Err p)
ending l r compete outputs (tops.Done w flows.End) = Some (Ok (becomes l (Done w flows.End)))
ending l r compete outputs (tops.Done w f) = if compete then Some (complete l r w) else option_map (complete l r) outputs
ending l r compete outputs k = None

-- the step of a rule, where it applies
abbrev pub MakesSome : Line → Option (Result Stepped Problem) → Result (Option Made) Halt → Type 0
MakesSome l m (Ok None) = m ≡ None
MakesSome l m (Ok (Some x)) = m ≡ Some (Ok (stepped_of l x))
MakesSome l m (Err (halts.Fault p)) = m ≡ Some (Err p)
MakesSome l m (Err halts.OutOfMemory) = Unit {0}
