-- What has ended stays.
use Rattle.std.specs.Prelude.{◌≡◌, ℕ, List, true, Some}
use Rattle.swf_value.specs.Value.{Value}
use Rattle.swf_meaning.specs.Answer.{instance_at, status}
use Rattle.swf_meaning.specs.World.{Instance, World}
use Rattle.swf_runs.specs.Alive.{has_ended}

-- the instance of that id is there and has ended
abbrev pub HasEnded : World → List ℕ → Type 0
HasEnded w id = (i : Instance) × (instance_at id w.instances ≡ Some i) × (has_ended i.node ≡ true)

-- what is reported of an instance that has ended in one world is reported of it in the other
abbrev pub Stays : World → World → Type 0
Stays w m = (id : List ℕ) (v : Value) → HasEnded w id → status w id ≡ Some v → status m id ≡ Some v
