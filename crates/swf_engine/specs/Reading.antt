-- How far an opening has read a journal, behind a front and from a first world on.
use Rattle.std.specs.Prelude.{◌≡◌, ℕ, List, Bool, true, false, Some, None, Result, Ok, Err}
use Rattle.swf_journal.specs.Place.{Place, HasRead}
use Rattle.swf_journal.specs.Stands.{IsShutAfter}
use Rattle.swf_engine.specs.declared.fault.EngineFault.{EngineFault}
use Rattle.swf_engine.specs.declared.fault.EngineFault.TheVariants.{Store, Damaged, Full, OutOfMemory}
use Rattle.swf_engine.specs.Core.{Core}
use Rattle.swf_engine.specs.Damage.{IsFrameDamage}
use Rattle.swf_meaning.specs.declared.label.Label.{Label}
use Rattle.swf_runs.specs.After.{after}
use Rattle.swf_runs.specs.Runs.{run_from}
use Rattle.swf_meaning.specs.World.{World}
use Rattle.swf_engine.specs.History.{HoldLabels}

-- the frames between the front and the place are read, and their labels led from the first world to this one
pub record HasReplayed (journal front : List ℕ) (first : World) (place : Place) (world : World) : Type 0 where
  pub bodies : List (List ℕ)
  pub labels : List Label
  pub read : HasRead journal place front bodies
  pub holds : HoldLabels bodies labels
  pub run : run_from first labels ≡ Some world

-- a label was taken, or its condition does not hold
abbrev pub IsTaken : Bool → World → Label → World → Type 0
IsTaken true old label new = after old label ≡ Some new
IsTaken false old label new = (after old label ≡ None) × (new ≡ old)

-- all frames are read: the gate behind them is not open
pub record HasReadAll (journal front : List ℕ) (first : World) (place : Place) (world : World) : Type 0 where
  pub replayed : HasReplayed journal front first place world
  pub shut : IsShutAfter front journal replayed.bodies
  pub ended : place.ended ≡ true

-- one frame more was read, or there is none, or the journal is damaged
abbrev pub Reads : List ℕ → List ℕ → World → Place → World → Result Bool EngineFault → Type 0
Reads journal front first place world (Ok true) = HasReplayed journal front first place world
Reads journal front first place world (Ok false) = HasReadAll journal front first place world
Reads journal front first place world (Err Store) = Unit {0}
Reads journal front first place world (Err (Damaged at)) = IsFrameDamage journal front first at
Reads journal front first place world (Err (Full size)) = ⊥
Reads journal front first place world (Err OutOfMemory) = Unit {0}

-- the engine of all frames behind the front, or the journal is damaged there
abbrev pub ReadsAll : List ℕ → List ℕ → World → Result Core EngineFault → Type 0
ReadsAll journal front first (Ok engine) = (place : Place) × (world : World) × HasReadAll journal front first place world × (engine ≡ record { world = world; gate = place.gate })
ReadsAll journal front first (Err Store) = Unit {0}
ReadsAll journal front first (Err (Damaged at)) = IsFrameDamage journal front first at
ReadsAll journal front first (Err (Full size)) = ⊥
ReadsAll journal front first (Err OutOfMemory) = Unit {0}
