-- An engine: the world, and the place of the next gate in the journal.
use Rattle.std.specs.Prelude.{◌≡◌, ℕ, ◌^◌, ◌<◌, List, Option, Some, length, refl}
use Rattle.std.specs.Coded.{Coded, code_by, coded×, coded_ℕ}
use Rattle.std.specs.Option.{ForSome}
use Rattle.swf_store.specs.declared.image.File.TheVariants.{Journal}
use Rattle.swf_store.specs.declared.image.Image.{Image}
use Rattle.swf_journal.specs.Frames.{header}
use Rattle.swf_journal.specs.Place.{IsSettled}
use Rattle.swf_meaning.specs.declared.label.Label.{Label}
use Rattle.swf_runs.specs.Runs.{run}
use Rattle.swf_meaning.specs.Codes.{world_code}
use Rattle.swf_meaning.specs.World.{World}
use Rattle.swf_engine.specs.History.{HoldLabels}

pub record Core : Type 0 where
  pub world : World
  pub gate : ℕ

-- a core is stored as the pair of its fields
abbrev pub core_code : Coded Core
core_code = code_by (World × ℕ) (coded× world_code coded_ℕ) (λ c. (c.world, c.gate)) (λ p. record { world = p.0; gate = p.1 }) (λ _. refl)

-- the most bytes that a journal has
abbrev pub most_bytes : ℕ
most_bytes = 2 ^ 40

-- where the store is honest, the gate lies in its journal
abbrev pub IsEngineOf : Option Image → Core → Type 0
IsEngineOf seen engine = ForSome seen (λ image. engine.gate < length image.journal)

-- Engine and store stand for this history: its frames end at the gate, a stop leaves just that, and the world is the history's.
pub record StandFor (image : Image) (may_leave : Image → Type 0) (engine : Core) (history : List Label) : Type 0 where
  pub bodies : List (List ℕ)
  pub settled : IsSettled image may_leave Journal engine.gate header bodies
  pub holds : HoldLabels bodies history
  pub run : run history ≡ Some engine.world
