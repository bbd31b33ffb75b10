-- How the parts of a rule follow each other.
use Rattle.std.specs.Prelude.{ℕ, List, Result, Ok, Err, codes}
use Rattle.swf_document.specs.Errors.{standard}
use Rattle.swf_document.specs.Task.{Task}
use Rattle.swf_document.specs.declared.error.ErrorKind.{ErrorKind}
use Rattle.swf_document.specs.declared.error.ErrorKind.TheVariants as kinds
use Rattle.swf_document.specs.declared.error.Problem.{Problem}
use Rattle.swf_templates.specs.Fill.{message}
use Rattle.swf_templates.specs.declared.got.Got.{Got}
use Rattle.swf_templates.specs.declared.got.Got.TheVariants as gots
use Rattle.swf_meaning.specs.Parts.{place_of}

infixl 10 ◌>>=◌
-- a rule goes on with what a part gives, or ends in that part's error
abbrev pub ◌>>=◌ : {A B : Type 0} → Result A Problem → (A → Result B Problem) → Result B Problem
Ok a >>= f = f a
Err p >>= f = Err p

-- a standard error of a task, at its place
abbrev pub fails : {A : Type 0} → Task → ErrorKind → List ℕ → Result A Problem
fails t k detail = Err (standard k (place_of t) detail)

-- what was evaluated for a task, or the task's error
abbrev pub value_of : {A : Type 0} → Task → Got A → Result A Problem
value_of t (gots.Value v) = Ok v
value_of t (gots.Raised m) = fails t kinds.Expression (message m)
value_of t gots.TooLarge = fails t kinds.Runtime (codes "value limit")
value_of t gots.Limit = fails t kinds.Runtime (codes "expression limit")
