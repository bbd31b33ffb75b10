-- What an opening makes of a store.
use Rattle.std.specs.Prelude.{◌≡◌, ◌⊎◌, ℕ, List, Option, Some}
use Rattle.swf_store.specs.declared.image.Image.{Image}
use Rattle.swf_store.specs.declared.said.Piece.{Piece}
use Rattle.swf_store.specs.Stops.{LeavesOnly}
use Rattle.swf_meaning.specs.declared.label.Label.{Label}
use Rattle.swf_engine.specs.Core.{Core, StandFor}
use Rattle.swf_engine.specs.History.{IsHistory}

module _ {S : Type 0} (moment : S → ℕ) (left_since : S → ℕ → Image → List Piece → Type 0) (said : S → Option (List Piece)) (may_leave : S → Image → Type 0) (seen : S → Option Image) where
  -- Until the first sync has succeeded a stop leaves what it might have left at first, and from then on the same history.
  abbrev pub OpensHistory : S → S → List Label → Type 0
  OpensHistory old new history =
      LeavesOnly moment left_since said old new (may_leave old)
      ⊎ ((synced : S) × (said synced ≡ said old) × LeavesOnly moment left_since said old synced (may_leave old) × LeavesOnly moment left_since said synced new (λ image. IsHistory image history))

  -- Engine and store stand for the history that the image stood for.
  pub record IsOpened (image : Image) (new : S) (engine : Core) : Type 0 where
    pub history : List Label
    pub was : IsHistory image history
    pub now : Image
    pub seen_now : seen new ≡ Some now
    pub stands : StandFor now (may_leave new) engine history
