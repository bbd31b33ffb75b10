-- The group of a settling: steps, and among them replies that a board answered.
use Rattle.std.specs.Prelude.{ℕ, ◌≤◌, List, ◌++◌, length, Bool, IsPermutation}
use Rattle.swf_connect.specs.Parties.{Party}
use Rattle.swf_meaning.specs.World.{World}
use Rattle.swf_meaning.specs.declared.label.Label.{Label}
use Rattle.swf_engine.specs.Settling.{Called, AreTaken, AsksBoard, steps_in}

-- Behind that world at most so many of these labels are steps. The others are among what the board answered, in any order and each at
-- most once.
pub record AreSettling (w : World) (labels : List Label) (limit : ℕ) (answers : List Called) : Type 0 where
  pub used : List Called
  pub unused : List Called
  pub among : IsPermutation answers (used ++ unused)
  pub taken : AreTaken w labels used
  pub most : length (steps_in labels) ≤ limit

-- a board was asked in a call, and this holds of what it answered
abbrev pub Answering : Bool → List Party → List Party → (List Called → Type 0) → Type 0
Answering http old new P = (answers : List Called) × AsksBoard http answers old new × P answers
