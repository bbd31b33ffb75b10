-- A code for variables, by which a ghost name tells them apart.
use Rattle.std.specs.Prelude.{ℕ, List, refl}
use Rattle.std.specs.Coded.{Coded, code_by, coded×, coded_list, coded_ℕ}
use Rattle.swf_value.specs.Value.{Value}
use Rattle.swf_value.specs.ValueCode.{value_code}
use Rattle.swf_evaluation.specs.declared.vars.Variable.{Variable}

abbrev pub variable_code : Coded Variable
variable_code = code_by (List ℕ × Value) (coded× (coded_list coded_ℕ) value_code) (λ x. (x.name, x.value)) (λ p. record { name = p.0; value = p.1 }) (λ _. refl)
