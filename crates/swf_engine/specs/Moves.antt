-- What a call of an engine adds to a history, and what a stop at any moment of it leaves.
use Rattle.std.specs.Prelude.{◌≡◌, ℕ, ◌+◌, ◌<◌, ◌≤◌, true, List, ◌++◌, length, Option, Some, is_some}
use Rattle.std.specs.Option.{ForSome}
use Rattle.std.specs.List.{AllByRecursion}
use Rattle.swf_store.specs.declared.image.Image.{Image}
use Rattle.swf_store.specs.declared.said.Piece.{Piece}
use Rattle.swf_store.specs.Stops.{LeavesOnly}
use Rattle.swf_meaning.specs.declared.label.Label.{Label}
use Rattle.swf_meaning.specs.declared.label.Label.TheVariants.{Load, Start, Event, Reply, Moment, Step}
use Rattle.swf_runs.specs.Runs.{run_from}
use Rattle.swf_record.specs.Encodes.{labels_bytes}
use Rattle.swf_engine.specs.History.{IsGrown}
use Rattle.swf_engine.specs.Core.{Core, StandFor, most_bytes}

module _ {S : Type 0} (moment : S → ℕ) (left_since : S → ℕ → Image → List Piece → Type 0) (said : S → Option (List Piece)) (may_leave : S → Image → Type 0) (seen : S → Option Image) where
  -- At every moment an image stands for the history and the first labels of the group.
  abbrev pub Passes : S → S → Core → List Label → Type 0
  Passes old new engine group = ForSome (seen old) (λ image. (history : List Label) → StandFor image (may_leave old) engine history
      → LeavesOnly moment left_since said old new (IsGrown history group))

  -- The group was added: it is legal, and engine and store stand for the history with it.
  pub record Adds (old new : S) (before after : Core) (group : List Label) : Type 0 where
    pub honest : is_some (seen new) ≡ is_some (seen old)
    pub run : run_from before.world group ≡ Some after.world
    pub passes : Passes old new before group
    pub stands : ForSome (seen old) (λ image. (history : List Label) → StandFor image (may_leave old) before history
        → ForSome (seen new) (λ now. StandFor now (may_leave new) after (history ++ group)))

  -- The store failed: no more than the group was added, and it is legal.
  pub record Breaks (old new : S) (before : Core) (group : List Label) : Type 0 where
    pub legal : is_some (run_from before.world group) ≡ true
    pub passes : Passes old new before group

abbrev pub IsStep : Label → Type 0
IsStep (Load v) = ⊥
IsStep (Start id key input) = ⊥
IsStep (Event e) = ⊥
IsStep (Reply a r) = ⊥
IsStep (Moment moment) = ⊥
IsStep (Step id strand) = Unit {0}

-- a frame with these labels, and the gate behind it, would end past the most bytes of a journal
pub record IsFull (engine : Core) (labels : List Label) (size : ℕ) : Type 0 where
  pub past : most_bytes < engine.gate + 10 + length (labels_bytes labels)
  pub size_is : size ≡ engine.gate + 1
