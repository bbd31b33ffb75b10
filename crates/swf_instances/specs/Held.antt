-- What the instances are to those above: a list, the moment that was reached, and how many more fit without memory.
use Rattle.std.specs.Prelude.{◌≡◌, ℕ, List, map, refl}
use Rattle.std.specs.List.{AllByRecursion, IsDistinct}
use Rattle.std.specs.Map.{keys_of}
use Rattle.std.specs.Coded.{Coded, code_by, coded×, coded_ℕ, coded_list}
use Rattle.swf_text.specs.Same.{same}
use Rattle.swf_meaning.specs.World.{Instance}
use Rattle.swf_meaning.specs.Codes.{instance_code}

-- in start order
pub record HeldInstances : Type 0 where
  pub instances : List Instance
  pub moment : ℕ
  pub room : ℕ

abbrev pub held_instances_code : Coded HeldInstances
held_instances_code = code_by (List Instance × (ℕ × ℕ)) (coded× (coded_list instance_code) (coded× coded_ℕ coded_ℕ)) (λ h. (h.instances, (h.moment, h.room))) (λ p. record { instances = p.0; moment = p.1.0; room = p.1.1 }) (λ _. refl)

-- those of the map
abbrev pub instances_in : List (List ℕ × Instance) → List Instance
instances_in is = map (λ e. e.1) is

-- an instance is kept under its own id
abbrev pub IsPlaced : List ℕ × Instance → Type 0
IsPlaced e = e.0 ≡ e.1.id

-- each is, and no two ids are equal
pub record AreHeld (es : List (List ℕ × Instance)) : Type 0 where
  pub placed : AllByRecursion IsPlaced es
  pub apart : IsDistinct same (keys_of es)
