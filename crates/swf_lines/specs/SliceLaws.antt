-- A slice equals its steps in a row, and is determined.
use Rattle.std.specs.Prelude.{◌≡◌, ℕ, List, replicate, false, Some}
use Rattle.swf_meaning.specs.Answer.{instance_at}
use Rattle.swf_meaning.specs.World.{Instance, World}
use Rattle.swf_meaning.specs.declared.label.Label.TheVariants.{Step}
use Rattle.swf_runs.specs.Runs.{run_from}
use Rattle.swf_lines.specs.Own.{Own, own_at}
use Rattle.swf_lines.specs.Slices.{IsSlice, own_steps, with_slice}

-- the strand of an instance stands as it was copied
abbrev pub Carries : World → List ℕ → List ℕ → Own → Type 0
Carries w id bs o = (i : Instance) × (instance_at id w.instances ≡ Some i) × (own_at bs i ≡ Some o)

-- so many labels of the strand in a row lead to the world with what the copy came to in its place
abbrev pub SliceIsSteps : Type 0
SliceIsSteps = (w : World) (id bs : List ℕ) (n : ℕ) (o p : Own) → Carries w id bs o → own_steps w.now n o ≡ Some p → run_from w (replicate n (Step id bs)) ≡ Some (with_slice id bs n p w)

-- two slices of a strand, with the same fuel and enough memory, took as many steps and came to the same
abbrev pub SliceIsOne : Type 0
SliceIsOne = (now fuel n m : ℕ) (o p q : Own) → IsSlice now o p fuel n false → IsSlice now o q fuel m false → (n ≡ m) × (p ≡ q)
