-- A slice: steps that a strand takes alone, one after another, and what they make of the world.
use Rattle.std.specs.Prelude.{◌≡◌, ◌+◌, ◌≤◌, ◌<◌, ℕ, zero, suc, List, [], ◌∷◌, Bool, false, Option, Some, None, option_and_then, if◌then◌else◌}
use Rattle.swf_text.specs.Same.{same}
use Rattle.swf_meaning.specs.World.{Instance, World}
use Rattle.swf_lines.specs.Own.{Own, own_step, put_own}

-- what so many steps lead to; none where one cannot be taken
abbrev pub own_steps : ℕ → ℕ → Own → Option Own
own_steps now zero o = Some o
own_steps now (suc n) o = option_and_then (own_steps now n) (own_step now o)

-- what is made of a strand at a moment: so many steps, no more than the fuel, and no fewer, unless memory was missing or the next one is
-- shared, ends its branch or cannot be taken
pub record IsSlice (now : ℕ) (before after : Own) (fuel steps : ℕ) (memory : Bool) : Type 0 where
  pub took : own_steps now steps before ≡ Some after
  pub most : steps ≤ fuel
  pub enough : memory ≡ false → steps < fuel → own_step now after ≡ None

-- the instances with this in place of the strand of the one of that id
abbrev pub put_in : List ℕ → List ℕ → Own → List Instance → List Instance
put_in id bs p [] = []
put_in id bs p (i ∷ is) = if same id i.id then put_own bs p i ∷ is else i ∷ put_in id bs p is

-- the world after a slice of so many steps
abbrev pub with_slice : List ℕ → List ℕ → ℕ → Own → World → World
with_slice id bs n p w = record w { instances = put_in id bs p w.instances; count = w.count + n }
