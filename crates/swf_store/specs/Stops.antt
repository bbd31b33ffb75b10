-- What a stop at some moment since a given one may leave, together with what had been said by then.
use Rattle.std.specs.Prelude.{◌⊎◌, ℕ, ◌≤◌, List, Option}
use Rattle.swf_store.specs.declared.image.Image.{Image}
use Rattle.swf_store.specs.declared.said.Piece.{Piece}
use Rattle.swf_store.specs.Said.{IsSaid}

-- Time goes on through a call: a stop since a moment leaves what it might have left before the call, or what it may
-- leave now, with pieces of which P tells.
pub record Elapses (before now : ℕ) (past since : ℕ → Image → List Piece → Type 0) (may_leave : Image → Type 0) (P : List Piece → Type 0) : Type 0 where
  pub later : before ≤ now
  pub nothing_else : (t : ℕ) (image : Image) (pieces : List Piece) → t ≤ before → since t image pieces → past t image pieces ⊎ (may_leave image × P pieces)
  pub keeps : (t : ℕ) (image : Image) (pieces : List Piece) → t ≤ before → past t image pieces → since t image pieces

-- the same through a call that says nothing
abbrev pub ElapsesSilent : ℕ → ℕ → (ℕ → Image → List Piece → Type 0) → (ℕ → Image → List Piece → Type 0) → (Image → Type 0) → Option (List Piece) → Type 0
ElapsesSilent before now past since may_leave said = Elapses before now past since may_leave (IsSaid said)

-- At a stop at any moment from the old state to the new one the image and the pieces together have P.
pub record Leaves {S : Type 0} (moment : S → ℕ) (left_since : S → ℕ → Image → List Piece → Type 0) (old new : S) (P : Image → List Piece → Type 0) : Type 0 where
  pub later : moment old ≤ moment new
  pub each : (image : Image) (pieces : List Piece) → left_since new (moment old) image pieces → P image pieces
  -- for a run that began earlier
  pub before : (t : ℕ) (image : Image) (pieces : List Piece) → t ≤ moment old → left_since new t image pieces → left_since old t image pieces ⊎ P image pieces

-- the silent case: what was said stays
abbrev pub LeavesOnly : {S : Type 0} → (S → ℕ) → (S → ℕ → Image → List Piece → Type 0) → (S → Option (List Piece)) → S → S → (Image → Type 0) → Type 0
LeavesOnly moment left_since said old new P = Leaves moment left_since old new (λ image pieces. P image × IsSaid (said old) pieces)
