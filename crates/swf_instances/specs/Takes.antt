-- An instance takes a step that was prepared.
use Rattle.std.specs.Prelude.{◌≡◌, ℕ, zero, suc, List, [], ◌∷◌, Some, slice_get}
use Rattle.swf_meaning.specs.World.{Instance}
use Rattle.swf_tasks.specs.Prepares.{applied, Fits}
use Rattle.swf_tasks.specs.declared.prepared.Prepared.{Prepared}

-- the step fits the instance of that number
abbrev pub FitsAt : ℕ → Prepared → List Instance → Type 0
FitsAt n prepared is = (i : Instance) × (slice_get is n ≡ Some i) × Fits prepared i

-- that instance took it
abbrev pub take_at : ℕ → Prepared → List Instance → List Instance
take_at n prepared [] = []
take_at zero prepared (i ∷ is) = applied prepared i ∷ is
take_at (suc n) prepared (i ∷ is) = i ∷ take_at n prepared is
