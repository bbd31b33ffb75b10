-- What `show` says: the status of each instance, in start order.
use Rattle.std.specs.Prelude.{◌≡◌, ◌⊎◌, ℕ, List, [], ◌∷◌, ◌++◌, length, map, Option, Some}
use Rattle.swf_store.specs.declared.image.Image.{Image}
use Rattle.swf_store.specs.declared.said.Piece.{Piece}
use Rattle.swf_store.specs.Stops.{Leaves}
use Rattle.swf_meaning.specs.declared.label.Label.{Label}
use Rattle.swf_meaning.specs.declared.label.Query.TheVariants.{Status}
use Rattle.swf_runs.specs.Keys.{Once}
use Rattle.swf_runs.specs.Runs.{world_at}
use Rattle.swf_meaning.specs.World.{World}
use Rattle.swf_host.specs.declared.host.Input.{Input}
use Rattle.swf_world.specs.Answers.{answer}
use Rattle.swf_engine.specs.Core.{Core}
use Rattle.swf_engine.specs.History.{IsHistory}
use Rattle.swf_protocol.specs.Spoken.{spoken}
use Rattle.swf_protocol.specs.declared.reply.Reply.{Reply}
use Rattle.swf_turns.specs.Moments.{IsCut}
use Rattle.swf_turns.specs.Steps.{Stand}
use Rattle.swf_turns.specs.Turns.{query_reply}

-- the reply to `status` for each instance of a world, in start order
abbrev pub lines_in : List Label → World → List Reply
lines_in labels w = map (λ i. query_reply (answer labels w (Status i.id))) w.instances

abbrev pub lines_of : List Label → List Reply
lines_of history = lines_in history (world_at history)

-- the pieces that say them to connection 0, behind so many inputs
abbrev pub line_pieces : ℕ → List Reply → List Piece
line_pieces n replies = map (λ r. record { conn = 0; bytes = spoken r; inputs = n }) replies

-- a part of the next line
abbrev pub IsNextLine : List Reply → Piece → Type 0
IsNextLine [] p = ⊥
IsNextLine (r ∷ rs) p = (p.conn ≡ 0) × IsCut p.bytes (spoken r)

-- The image stands for the history before, whose first lines were said, and perhaps a part of the next.
pub record IsShowing {W : Type 0} (before : List Label) (first : List (Input W)) (said : List Piece) (image : Image) (pieces : List Piece) : Type 0 where
  pub stands : IsHistory image before
  pub once : Once before
  pub whole : List Reply
  pub rest : List Reply
  pub lines_are : lines_of before ≡ whole ++ rest
  pub pieces_are : (pieces ≡ said ++ line_pieces (length first) whole) ⊎ ((last : Piece) × (pieces ≡ said ++ (line_pieces (length first) whole ++ last ∷ [])) × IsNextLine rest last)

-- all lines were said, no input was taken, and every image stands for the history
pub record IsShown {W : Type 0} (before : List Label) (first : List (Input W)) (said : List Piece) (taken_now : Option (List (Input W))) (said_now : Option (List Piece)) (may_leave : Image → Type 0) : Type 0 where
  pub taken : taken_now ≡ Some first
  pub told : said_now ≡ Some (said ++ line_pieces (length first) (lines_of before))
  pub stands : (image : Image) → may_leave image → IsHistory image before

-- the first lines were said, and no part of another
pub record IsPartShown {W : Type 0} (before : List Label) (first : List (Input W)) (said : List Piece) (taken_now : Option (List (Input W))) (said_now : Option (List Piece)) : Type 0 where
  pub whole : List Reply
  pub rest : List Reply
  pub lines_are : lines_of before ≡ whole ++ rest
  pub taken : taken_now ≡ Some first
  pub told : said_now ≡ Some (said ++ line_pieces (length first) whole)

module _ {W S : Type 0} (moment : S → ℕ) (left_since : S → ℕ → Image → List Piece → Type 0) (said : S → Option (List Piece)) (may_leave : S → Image → Type 0) (seen : S → Option Image) (taken : S → Option (List (Input W))) where
  -- what saying the lines makes of a store that stands for a history since some state
  pub record Showed (start new : S) (before : List Label) (first : List (Input W)) (pieces : List Piece) (status : ℕ) : Type 0 where
    pub took : taken new ≡ Some first
    pub leaves : Leaves moment left_since start new (IsShowing before first pieces)
    pub finish : status ≡ 0 → IsShown before first pieces (taken new) (said new) (may_leave new)
    pub short : status ≡ 6 → IsPartShown before first pieces (taken new) (said new)

  -- the same for whatever the store stands for
  abbrev pub ShowsOn : S → S → Core → ℕ → Type 0
  ShowsOn old new engine status = (start : S) (before : List Label) (first : List (Input W)) (pieces : List Piece) → taken old ≡ Some first → said old ≡ Some pieces
      → Stand moment left_since said may_leave seen old engine before → Leaves moment left_since start old (IsShowing before first pieces) → Showed start new before first pieces status
