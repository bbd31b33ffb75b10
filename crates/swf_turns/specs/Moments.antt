-- What a stop at any moment of a session leaves.
use Rattle.std.specs.Prelude.{◌≡◌, ◌⊎◌, ◌≢◌, ℕ, List, [], ◌∷◌, ◌++◌, map, length, Option}
use Rattle.swf_store.specs.declared.image.Image.{Image}
use Rattle.swf_store.specs.declared.said.Piece.{Piece}
use Rattle.swf_store.specs.Stops.{Leaves, LeavesOnly}
use Rattle.swf_meaning.specs.declared.label.Label.{Label}
use Rattle.swf_runs.specs.Keys.{Once}
use Rattle.swf_host.specs.declared.host.Input.{Input}
use Rattle.swf_engine.specs.History.{IsHistory}
use Rattle.swf_engine.specs.Settling.{Called}
use Rattle.swf_turns.specs.Dialect.{Dialect}
use Rattle.swf_turns.specs.Turns.{Turn}
use Rattle.swf_turns.specs.Owed.{Heard, AreSaid, ArePrompt, conn_of, replies_of}
use Rattle.swf_turns.specs.Follows.{Follows}
use Rattle.swf_words.specs.declared.words.Words.{Words}

-- what was heard of a piece
abbrev pub heard_of : Piece → Heard
heard_of p = record { conn = p.conn; bytes = p.bytes }

-- the bytes begin a line, and are not the whole of it
pub record IsCut (bytes line : List ℕ) : Type 0 where
  pub rest : List ℕ
  pub joined : line ≡ bytes ++ rest
  pub some : rest ≢ []

-- the last piece, behind replies that were not said whole and inputs that are not answered: a part of the next reply, or what tells of a
-- full journal, whole or in part, to who asked
abbrev pub IsLastPiece : {W : Type 0} → Dialect W → List Heard → List (Input W) → Piece → Type 0
IsLastPiece mode [] [] p = ⊥
IsLastPiece mode [] (i ∷ more) p = (p.conn ≡ conn_of i) × (size : ℕ) × (rest : List ℕ) × (mode.says_full size ≡ p.bytes ++ rest)
IsLastPiece mode (h ∷ hs) is p = (p.conn ≡ h.conn) × IsCut p.bytes h.bytes

-- no turn but the last was not replied to
abbrev pub IsLastUnsaid : {W : Type 0} → List (Turn W) → List (Input W) → Type 0
IsLastUnsaid [] is = Unit {0}
IsLastUnsaid (t ∷ []) is = is ≡ []
IsLastUnsaid (t ∷ u ∷ ts) is = ⊥

-- The image stands for a history that begins with the one before, and the inputs that were taken so far, what the board answered so
-- far and the whole replies among the pieces follow it. `all` are the inputs that were taken in the end, and `answers` all that the board
-- answered.
pub record IsMoment {W : Type 0} (mode : Dialect W) (words : Words) (before : List Label) (first : List (Input W)) (said : List Piece) (all : List (Input W)) (answers : List Called) (image : Image) (pieces : List Piece) : Type 0 where
  pub history : List Label
  pub stands : IsHistory image history
  pub once : Once history
  pub taken : List (Input W)
  pub later : List (Input W)
  pub taken_are : all ≡ first ++ (taken ++ later)
  pub asked : List Called
  pub unasked : List Called
  pub asked_are : answers ≡ asked ++ unasked
  pub whole : List Piece
  pub follows : Follows mode words before taken asked (map heard_of whole) history
  pub said_are : AreSaid mode (length first) follows.answered whole
  pub prompt : ArePrompt mode (length first) follows.answered whole
  pub one : IsLastUnsaid follows.unsaid follows.«open»
  pub pieces_are : (pieces ≡ said ++ whole) ⊎ ((last : Piece) × (pieces ≡ said ++ (whole ++ last ∷ [])) × IsLastPiece mode (replies_of mode follows.unsaid) follows.«open» last)

module _ {S : Type 0} (moment : S → ℕ) (left_since : S → ℕ → Image → List Piece → Type 0) (told : S → Option (List Piece)) (may_leave : S → Image → Type 0) where
  -- Until the opening's first sync has succeeded a stop leaves what it might have left at first, and nothing was said. From then
  -- on it leaves such a moment.
  abbrev pub Runs : (Image → List Piece → Type 0) → S → S → Type 0
  Runs Moment old new =
      LeavesOnly moment left_since told old new (may_leave old)
      ⊎ ((synced : S) × LeavesOnly moment left_since told old synced (may_leave old) × Leaves moment left_since synced new Moment)
