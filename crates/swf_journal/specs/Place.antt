-- Where in a journal a reading or an append is.
use Rattle.std.specs.Prelude.{◌≡◌, ◌≢◌, ℕ, ◌<◌, Bool, true, Option, List, ◌∷◌, ◌++◌, length}
use Rattle.std.specs.Option.{ForSome}
use Rattle.std.specs.List.{AllByRecursion}
use Rattle.swf_store.specs.declared.image.File.{File}
use Rattle.swf_store.specs.declared.image.Image.{Image}
use Rattle.swf_store.specs.Disk.{Only}
use Rattle.swf_store.specs.Files.{bytes_of}
use Rattle.swf_journal.specs.Frames.{open_gate, frames_bytes, next_gate}
use Rattle.swf_journal.specs.Stands.{Fits, IsShutAfter}

-- a reading: the place of the next gate in a file, the file's size, the most bytes that it may have, and whether that gate
-- was found not open
pub record Place : Type 0 where
  pub file : File
  pub gate : ℕ
  pub size : ℕ
  pub limit : ℕ
  pub ended : Bool

-- a journal that is ready: the place of the next gate in a file, and the most bytes that the file may have
pub record Gate : Type 0 where
  pub file : File
  pub at : ℕ
  pub limit : ℕ

-- these frames are read, behind what stands in front, and the reading stands at the gate behind them
pub record HasRead (bytes : List ℕ) (place : Place) (front : List ℕ) (frames : List (List ℕ)) : Type 0 where
  pub gate : ℕ
  pub rest : List ℕ
  pub laid : bytes ≡ front ++ (frames_bytes frames ++ gate ∷ rest)
  pub fit : AllByRecursion Fits frames
  pub here : place.gate ≡ next_gate front frames
  pub ended : place.ended ≡ true → gate ≢ open_gate

-- these bytes hold the frames behind what stands in front, and the gate at this place behind them is not open
pub record IsReady (bytes : List ℕ) (at : ℕ) (front : List ℕ) (frames : List (List ℕ)) : Type 0 where
  pub holds : IsShutAfter front bytes frames
  pub here : at ≡ next_gate front frames

-- what reads give is ready at this place of a file, and a stop leaves just that
pub record IsSettled (image : Image) (may_leave : Image → Type 0) (file : File) (at : ℕ) (front : List ℕ) (frames : List (List ℕ)) : Type 0 where
  pub ready : IsReady (bytes_of image file) at front frames
  pub durable : Only image may_leave

-- where the store is honest, the reading knows the size of its file, and its gate lies in the file
abbrev pub IsReadingOf : Option Image → Place → Type 0
IsReadingOf seen place = ForSome seen (λ image. (place.size ≡ length (bytes_of image place.file)) × (place.gate < place.size))

-- where the store is honest, the gate lies in its file
abbrev pub IsJournalOf : Option Image → Gate → Type 0
IsJournalOf seen gate = ForSome seen (λ image. gate.at < length (bytes_of image gate.file))
