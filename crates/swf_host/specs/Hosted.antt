-- A host in memory over a store in memory, and what a stop leaves of both.
use Rattle.std.specs.Prelude.{◌≡◌, ℕ, ◌+◌, ◌<◌, ◌≤◌, List, length, take, drop, map, All}
use Rattle.swf_store.specs.declared.image.Image.{Image}
use Rattle.swf_store.specs.declared.said.Piece.{Piece}
use Rattle.swf_store.specs.Memory.{Memory, state_after}
use Rattle.swf_store.specs.Replay.{IsLeft}
use Rattle.swf_host.specs.declared.script.Said.{Said}
use Rattle.swf_host.specs.Script.{Play}

pub record Hosted (G W : Type 0) : Type 0 where
  pub play : Play G W
  pub store : Memory

abbrev pub piece_of : Said → Piece
piece_of s = record { conn = s.conn; bytes = s.bytes; inputs = s.inputs }

abbrev pub pieces_of : List Said → List Piece
pieces_of said = map piece_of said

-- each of these pieces was said before the store had more calls
abbrev pub SaidBy : ℕ → List Said → Type 0
SaidBy calls said = All (λ s. s.calls ≤ calls) said

-- each was said when the store had so many calls or more
abbrev pub SaidFrom : ℕ → List Said → Type 0
SaidFrom calls said = All (λ s. calls ≤ s.calls) said

-- A stop after so many calls of the store and so many pieces, which are together no fewer than since. The pieces that had
-- been said were said before the next call, if there was one, and the others after the last.
pub record StopsSince (memory : Memory) (said : List Said) (since : ℕ) (image : Image) (pieces : List Piece) : Type 0 where
  pub calls : ℕ
  pub number : ℕ
  pub not_before : since ≤ calls + number
  pub made : calls ≤ length memory.calls
  pub spoken : number ≤ length said
  pub left : IsLeft (state_after memory calls) image
  pub pieces_are : pieces ≡ pieces_of (take number said)
  pub said_by : calls < length memory.calls → SaidBy calls (take number said)
  pub said_from : SaidFrom calls (drop number said)
