-- The names of the variables and of the members of their values.
use Rattle.std.specs.Prelude.{◌≡◌, ℕ, List, codes}
use Rattle.std.specs.Coded.{Coded, codes as coded_plainly}

pub unit_code : Coded (Unit {0})
unit_code = hlevel coded_plainly

pub record AreWords (workflow context task input output id started_at epoch milliseconds name reference : List ℕ) : Type 0 where
  pub workflow_is : workflow ≡ codes "workflow"
  pub context_is : context ≡ codes "context"
  pub task_is : task ≡ codes "task"
  pub input_is : input ≡ codes "input"
  pub output_is : output ≡ codes "output"
  pub id_is : id ≡ codes "id"
  pub started_at_is : started_at ≡ codes "startedAt"
  pub epoch_is : epoch ≡ codes "epoch"
  pub milliseconds_is : milliseconds ≡ codes "milliseconds"
  pub name_is : name ≡ codes "name"
  pub reference_is : reference ≡ codes "reference"
