-- What a rule's function gives: what the rule gives, unless memory runs out.
use Rattle.std.specs.Prelude.{◌≡◌, ℕ, List, Result, Ok, Err}
use Rattle.swf_document.specs.Errors.{standard}
use Rattle.swf_document.specs.Task.{Task}
use Rattle.swf_document.specs.declared.error.ErrorKind.{ErrorKind}
use Rattle.swf_document.specs.declared.error.Problem.{Problem}
use Rattle.swf_meaning.specs.Complete.{Stepped}
use Rattle.swf_meaning.specs.Line.{Line}
use Rattle.swf_meaning.specs.Parts.{place_of}
use Rattle.swf_stack.specs.Stack.{stepped_of}
use Rattle.swf_scene.specs.declared.halt.Halt.{Halt}
use Rattle.swf_scene.specs.declared.halt.Halt.TheVariants as halts
use Rattle.swf_stack.specs.declared.made.Made.{Made}

-- a standard error of the task
abbrev pub IsFault : Task → ErrorKind → List ℕ → Halt → Type 0
IsFault t k detail (halts.Fault p) = p ≡ standard k (place_of t) detail
IsFault t k detail halts.OutOfMemory = Unit {0}

-- what a part of a rule gives
abbrev pub Gives : {A : Type 0} → Result A Problem → Result A Halt → Type 0
Gives m (Ok x) = m ≡ Ok x
Gives m (Err (halts.Fault p)) = m ≡ Err p
Gives m (Err halts.OutOfMemory) = Unit {0}

-- the step of a rule, of a task that goes by the line
abbrev pub Makes : Line → Result Stepped Problem → Result Made Halt → Type 0
Makes l m (Ok x) = m ≡ Ok (stepped_of l x)
Makes l m (Err (halts.Fault p)) = m ≡ Err p
Makes l m (Err halts.OutOfMemory) = Unit {0}
