-- What an append makes of a file, and what a stop leaves of it.
use Rattle.std.specs.Prelude.{◌≡◌, ◌⊎◌, ℕ, ◌+◌, List, [], ◌∷◌, ◌++◌}
use Rattle.swf_store.specs.declared.image.File.{File}
use Rattle.swf_store.specs.declared.image.Image.{Image}
use Rattle.swf_store.specs.Files.{bytes_of, with_bytes}
use Rattle.swf_store.specs.Put.{put}
use Rattle.swf_journal.specs.Frames.{open_gate, frame_tail}
use Rattle.swf_journal.specs.Stands.{IsShutAfter}

-- the frame stands behind its gate
abbrev pub staged : File → ℕ → List ℕ → Image → Image
staged file at body image = with_bytes image file (put (bytes_of image file) (at + 1) (frame_tail body))

-- and the gate is opened
abbrev pub appended : File → ℕ → List ℕ → Image → Image
appended file at body image = with_bytes (staged file at body image) file (put (bytes_of (staged file at body image) file) at (open_gate ∷ []))

-- the other files stay, and the file holds these frames behind what stands in front, or one frame more
pub record BeforeOrAfter (file : File) (front : List ℕ) (image : Image) (frames : List (List ℕ)) (body : List ℕ) (left : Image) : Type 0 where
  pub others : left ≡ with_bytes image file (bytes_of left file)
  pub holds : IsShutAfter front (bytes_of left file) frames ⊎ IsShutAfter front (bytes_of left file) (frames ++ body ∷ [])
