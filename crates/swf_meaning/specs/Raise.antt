-- The error that a `raise` gives (DSL reference, "Raise" and "Error"; RFC 7807).
use Rattle.std.specs.Prelude.{ℕ, List, [], ◌∷◌, Option, Some, None, Result, Ok, Err, codes, if◌then◌else◌}
use Rattle.swf_text.specs.Same.{same}
use Rattle.swf_text.specs.Pointer.{pointer}
use Rattle.swf_value.specs.Value.{Value, text}
use Rattle.swf_evaluation.specs.declared.vars.Variable.{Variable}
use Rattle.swf_document.specs.Task.{Task}
use Rattle.swf_document.specs.Template.{Template}
use Rattle.swf_document.specs.declared.document.NamedError.{NamedError}
use Rattle.swf_document.specs.declared.error.ErrorRef.{ErrorRef}
use Rattle.swf_document.specs.declared.error.ErrorRef.TheVariants as refs
use Rattle.swf_document.specs.declared.error.ErrorSpec.{ErrorSpec}
use Rattle.swf_document.specs.declared.error.ErrorKind.TheVariants as kinds
use Rattle.swf_document.specs.declared.error.Problem.{Problem}
use Rattle.swf_templates.specs.Fill.{fill}
use Rattle.swf_meaning.specs.Complete.{Stepped}
use Rattle.swf_meaning.specs.Line.{Line, within}
use Rattle.swf_meaning.specs.Node.{Running}
use Rattle.swf_meaning.specs.Parts.{place_of}
use Rattle.swf_meaning.specs.Rule.{◌>>=◌, fails, value_of}

-- a part has to give a text
abbrev pub text_in : Task → Value → Result (List ℕ) Problem
text_in t (text x) = Ok x
text_in t v = fails t kinds.Expression (codes "cannot raise")

abbrev pub text_of : Task → List Variable → Value → Template → Result (List ℕ) Problem
text_of t vars u e = do
  v ← value_of t (fill e vars u)
  text_in t v

-- a part that may be missing
abbrev pub part : Task → List Variable → Value → Option Template → Result (Option (List ℕ)) Problem
part t vars u None = Ok None
part t vars u (Some e) = do
  x ← text_of t vars u e
  Ok (Some x)

-- an error without an instance is of the task's place
abbrev pub or_place : Task → Option (List ℕ) → List ℕ
or_place t None = pointer (place_of t)
or_place t (Some x) = x

-- the parts are filled one after the other, by ascending name
abbrev pub raised : Task → List Variable → Value → ErrorSpec → Result Problem Problem
raised t vars u e = do
  detail ← part t vars u e.detail
  instance ← part t vars u e.instance
  title ← part t vars u e.title
  uri ← text_of t vars u e.uri
  Ok (record { uri = uri; status = e.status; title = title; detail = detail; instance = Some (or_place t instance) })

-- the error of a name in `use.errors`
abbrev pub error_named : List ℕ → List NamedError → Option ErrorSpec
error_named n [] = None
error_named n (e ∷ es) = if same e.name n then Some e.error else error_named n es

abbrev pub or_unknown : Task → Option ErrorSpec → Result ErrorSpec Problem
or_unknown t None = fails t kinds.Configuration (codes "unknown error")
or_unknown t (Some e) = Ok e

-- the error is written there or has a name; one in `use.errors` sees none of the variables around
abbrev pub raised_by : Line → Running → ErrorRef → Result Problem Problem
raised_by l r (refs.Written e) = raised r.task (within l r) r.input e
raised_by l r (refs.Named n) = do
  e ← or_unknown r.task (error_named n l.document.errors)
  raised r.task (within (record l { around = [] }) r) r.input e

-- the task ends in its error
abbrev pub raising : Line → Running → ErrorRef → Result Stepped Problem
raising l r ref = do
  p ← raised_by l r ref
  Err p
