-- The bytes of a journal: a header, and frames that each stand behind a gate. A frame is seen as its body.
use Rattle.std.specs.Prelude.{ℕ, ◌+◌, List, [], ◌∷◌, ◌++◌, length}
use Rattle.std.specs.Int.{to_be_bytes}
use Rattle.std.proofs.Common.{w64}

-- the first 16 bytes: SWFJRNL1 and eight zeros
unfoldable pub header : List ℕ
header = 0x53 ∷ 0x57 ∷ 0x46 ∷ 0x4A ∷ 0x52 ∷ 0x4E ∷ 0x4C ∷ 0x31 ∷ 0 ∷ 0 ∷ 0 ∷ 0 ∷ 0 ∷ 0 ∷ 0 ∷ 0 ∷ []

-- a gate is open exactly where it is this byte
abbrev pub open_gate : ℕ
open_gate = 0xA5

-- a length as eight bytes, the highest first
unfoldable pub length_bytes : ℕ → List ℕ
length_bytes n = to_be_bytes w64 n

-- open frames one after another: a gate, the length of the body, and the body
abbrev pub frames_bytes : List (List ℕ) → List ℕ
frames_bytes [] = []
frames_bytes (body ∷ frames) = open_gate ∷ (length_bytes (length body) ++ (body ++ frames_bytes frames))

-- the place of the gate behind them, where these bytes stand in front
abbrev pub next_gate : List ℕ → List (List ℕ) → ℕ
next_gate front frames = length front + length (frames_bytes frames)

-- what a frame's gate stands before, with a closed gate behind it
abbrev pub frame_tail : List ℕ → List ℕ
frame_tail body = length_bytes (length body) ++ (body ++ 0 ∷ [])
