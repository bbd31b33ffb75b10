-- The names of the variables that have a value.
use Rattle.std.specs.Prelude.{ℕ, List, [], ◌∷◌, codes}
use Rattle.swf_scope.specs.declared.variables.Standard.{Standard}
use Rattle.swf_scope.specs.declared.variables.Standard.TheVariants as standards
use Rattle.swf_scope.specs.declared.variables.Variables.{Variables}
use Rattle.swf_scope.specs.declared.variables.Variables.TheVariants as variables

abbrev pub standard_name : Standard → List ℕ
standard_name standards.Workflow = codes "workflow"
standard_name standards.Context = codes "context"
standard_name standards.Task = codes "task"
standard_name standards.Input = codes "input"
standard_name standards.Output = codes "output"
standard_name standards.Error = codes "error"

abbrev pub names_in : Variables → List (List ℕ)
names_in variables.Nothing = []
names_in (variables.Word' standard p outer) = standard_name standard ∷ names_in outer
names_in (variables.Name' x p outer) = x.now ∷ names_in outer
