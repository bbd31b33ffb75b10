-- Where a journal is damaged: the first place at which what was acknowledged does not fit.
use Rattle.std.specs.Prelude.{◌≡◌, ◌≢◌, ◌⊎◌, ℕ, ◌+◌, ◌≤◌, List, ◌∷◌, ◌++◌, length, take, Some, None, Ok, Err}
use Rattle.std.specs.List.{AllByRecursion}
use Rattle.swf_store.specs.declared.image.Image.{Image}
use Rattle.swf_journal.specs.Frames.{header, frames_bytes, next_gate}
use Rattle.swf_journal.specs.Opening.{IsFrame, IsDamage}
use Rattle.swf_journal.specs.Stands.{Fits}
use Rattle.swf_meaning.specs.declared.label.Label.{Label}
use Rattle.swf_runs.specs.After.{after}
use Rattle.swf_runs.specs.Runs.{run_from}
use Rattle.swf_meaning.specs.World.{World, empty}
use Rattle.swf_record.specs.Decodes.{decoded}
use Rattle.swf_record.specs.Encodes.{label_place}
use Rattle.swf_engine.specs.History.{HoldLabels}

-- a journal that has room for a frame does not begin with the header
pub record IsHeaderDamage (journal : List ℕ) (at : ℕ) : Type 0 where
  pub long : 25 ≤ length journal
  pub other : take 16 journal ≢ header
  pub place : at ≡ 0

-- the body of the frame at this gate spells no labels: told at the first field that does not fit
pub record IsMisspelled (gate : ℕ) (body : List ℕ) (at : ℕ) : Type 0 where
  pub bad : ℕ
  pub spells_none : decoded body ≡ Err bad
  pub place : at ≡ gate + 9 + bad

-- the body has a label whose condition does not hold in the world in front of it: told at that label's tag
pub record IsIllegal (world : World) (gate : ℕ) (body : List ℕ) (at : ℕ) : Type 0 where
  pub first : List Label
  pub label : Label
  pub more : List Label
  pub middle : World
  pub spelled : decoded body ≡ Ok (first ++ label ∷ more)
  pub legal : run_from world first ≡ Some middle
  pub refused : after middle label ≡ None
  pub place : at ≡ gate + 9 + label_place first

abbrev pub IsBadBody : World → ℕ → List ℕ → ℕ → Type 0
IsBadBody world gate body at = IsMisspelled gate body at ⊎ IsIllegal world gate body at

-- Behind this front stand whole frames whose labels lead from the first world to this one, and behind them these bytes, which begin
-- a gate.
pub record IsBehind (journal front : List ℕ) (first : World) (bodies : List (List ℕ)) (world : World) (behind : List ℕ) : Type 0 where
  pub labels : List Label
  pub laid : journal ≡ front ++ (frames_bytes bodies ++ behind)
  pub fit : AllByRecursion Fits bodies
  pub holds : HoldLabels bodies labels
  pub run : run_from first labels ≡ Some world

-- an open gate whose frame and next gate pass the end, told behind the gate, or a whole frame with a bad body
abbrev pub IsBadFrame : World → ℕ → List ℕ → ℕ → Type 0
IsBadFrame world gate behind at = (IsDamage behind × (at ≡ gate + 1)) ⊎ ((body : List ℕ) × (rest : List ℕ) × IsFrame behind body rest × IsBadBody world gate body at)

-- the first bad frame behind this front, where its labels are run from that world on
pub record IsFrameDamage (journal front : List ℕ) (first : World) (at : ℕ) : Type 0 where
  pub bodies : List (List ℕ)
  pub world : World
  pub behind : List ℕ
  pub ahead : IsBehind journal front first bodies world behind
  pub bad : IsBadFrame world (next_gate front bodies) behind at

-- the image's journal is damaged at this place; one that is too short for a frame is not
abbrev pub IsDamaged : Image → ℕ → Type 0
IsDamaged image at = IsHeaderDamage image.journal at ⊎ ((25 ≤ length image.journal) × IsFrameDamage image.journal header empty at)
