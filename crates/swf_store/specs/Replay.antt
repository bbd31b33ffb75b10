-- What a list of calls makes of three files, and what a stop may leave of them.
use Rattle.std.specs.Prelude.{◌≡◌, ℕ, ◌+◌, Bool, List, [], ◌∷◌, ◌++◌, length, ◌==◌, not, if◌then◌else◌}
use Rattle.std.specs.List.{list_any}
use Rattle.swf_store.specs.declared.call.Call.{Call}
use Rattle.swf_store.specs.declared.call.Call.TheVariants.{Size, Read, Write, Sync}
use Rattle.swf_store.specs.declared.image.Image.{Image}
use Rattle.swf_store.specs.declared.replay.Change.{Change}
use Rattle.swf_store.specs.Disk.{TornIn}
use Rattle.swf_store.specs.Files.{bytes_of, with_bytes}
use Rattle.swf_store.specs.Put.{put}

-- the files as the last sync left them, and the writes since
pub record Writing : Type 0 where
  pub synced : Image
  pub unsynced : List Change

-- the files after a write, which leaves them where it failed
abbrev pub and_write : Image → Change → Image
and_write image change = if change.done then with_bytes image change.file (put (bytes_of image change.file) change.at change.bytes) else image

-- the files after these writes
abbrev pub whole : Image → List Change → Image
whole image [] = image
whole image (change ∷ changes) = whole (and_write image change) changes

-- what reads give
abbrev pub reads : Writing → Image
reads writing = whole writing.synced writing.unsynced

-- what a stop may leave of these files and these writes, whether they failed or not: each is torn
abbrev pub IsTornBy : Image → List Change → Image → Type 0
IsTornBy old [] new = new ≡ old
IsTornBy old (change ∷ changes) new = (between : Image) × TornIn change.file change.at (length change.bytes) old between × IsTornBy between changes new

-- what a stop may leave
abbrev pub IsLeft : Writing → Image → Type 0
IsLeft writing image = IsTornBy writing.synced writing.unsynced image

-- a call that fails, or is done: a write that fails may be torn until a sync that is done
abbrev pub step : Bool → Call → Writing → Writing
step fails (Size file) writing = writing
step fails (Read file at len) writing = writing
step fails (Write file at bytes) writing = record writing { unsynced = writing.unsynced ++ record { file = file; at = at; bytes = bytes; done = not fails } ∷ [] }
step fails Sync writing = if fails then writing else record { synced = reads writing; unsynced = [] }

-- the number is on the list
abbrev pub is_in : List ℕ → ℕ → Bool
is_in numbers number = list_any (λ n. n == number) numbers

-- calls from this number on, of which those whose number is on the list fail
abbrev pub replay : List ℕ → ℕ → List Call → Writing → Writing
replay failing number [] writing = writing
replay failing number (call ∷ calls) writing = replay failing (number + 1) calls (step (is_in failing number) call writing)
