-- The history that an image stands for, the labels in the frames of its journal, which are a legal run; and its rest behind a front.
use Rattle.std.specs.Prelude.{◌≡◌, ℕ, List, [], ◌∷◌, ◌++◌, Some}
use Rattle.swf_store.specs.declared.image.Image.{Image}
use Rattle.swf_journal.specs.Stands.{Stands, IsShutAfter}
use Rattle.swf_meaning.specs.declared.label.Label.{Label}
use Rattle.swf_meaning.specs.World.{World}
use Rattle.swf_runs.specs.Runs.{Legal, run_from}
use Rattle.swf_record.specs.Encodes.{Encodes}

-- each body holds some labels, and joined in order they are these
abbrev pub HoldLabels : List (List ℕ) → List Label → Type 0
HoldLabels [] labels = labels ≡ []
HoldLabels (body ∷ bodies) labels = (first : List Label) × (rest : List Label) × (labels ≡ first ++ rest) × Encodes first body × HoldLabels bodies rest

-- an image stands for these labels
pub record IsHistory (image : Image) (labels : List Label) : Type 0 where
  pub bodies : List (List ℕ)
  pub stands : Stands image bodies
  pub holds : HoldLabels bodies labels
  pub legal : Legal labels

-- Behind this front a journal holds these labels, which lead from the first world to the last one, and then a gate that is not open.
pub record IsRest (journal front : List ℕ) (first : World) (labels : List Label) (last : World) : Type 0 where
  pub bodies : List (List ℕ)
  pub shut : IsShutAfter front journal bodies
  pub holds : HoldLabels bodies labels
  pub run : run_from first labels ≡ Some last

-- the second list begins with the first
pub record Begins (first all : List Label) : Type 0 where
  pub rest : List Label
  pub joined : all ≡ first ++ rest

-- an image stands for this history and the first of these labels after it
pub record IsGrown (history group : List Label) (image : Image) : Type 0 where
  pub part : List Label
  pub begins : Begins part group
  pub stands : IsHistory image (history ++ part)
