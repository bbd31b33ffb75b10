-- The list of frames that an image stands for.
use Rattle.std.specs.Prelude.{◌≡◌, ◌≢◌, ◌⊎◌, ℕ, ◌^◌, ◌<◌, ◌≤◌, List, [], ◌∷◌, ◌++◌, length}
use Rattle.std.specs.List.{AllByRecursion}
use Rattle.swf_store.specs.declared.image.Image.{Image}
use Rattle.swf_journal.specs.Frames.{header, open_gate, frames_bytes}

-- a body whose length fits its eight bytes
abbrev pub Fits : List ℕ → Type 0
Fits body = length body < 2 ^ 64

-- Behind what stands in front these frames are whole, each behind an open gate, and then comes a gate that is not open.
-- Bytes behind that gate are free.
pub record IsShutAfter (front bytes : List ℕ) (frames : List (List ℕ)) : Type 0 where
  pub gate : ℕ
  pub rest : List ℕ
  pub laid : bytes ≡ front ++ (frames_bytes frames ++ gate ∷ rest)
  pub shut : gate ≢ open_gate
  pub fit : AllByRecursion Fits frames

-- a journal of fewer than 25 bytes stands for no frames, and a longer one with a right header for those before its first
-- gate that is not open
abbrev pub StandsFor : List ℕ → List (List ℕ) → Type 0
StandsFor journal frames = ((length journal < 25) × (frames ≡ [])) ⊎ ((25 ≤ length journal) × IsShutAfter header journal frames)

-- an image stands for what its journal stands for
abbrev pub Stands : Image → List (List ℕ) → Type 0
Stands image frames = StandsFor image.journal frames
