-- What opening makes of a journal, what a reading finds at a gate, and what a stop of an opening leaves.
use Rattle.std.specs.Prelude.{◌≡◌, ◌≢◌, ◌⊎◌, ℕ, ◌^◌, ◌<◌, ◌≤◌, Option, Some, None, List, [], ◌∷◌, ◌++◌, length, take, drop, nat_lt, if◌then◌else◌, Vec}
use Rattle.std.specs.declared.alloc.Global.{Global}
use Rattle.swf_store.specs.declared.image.File.TheVariants.{Journal}
use Rattle.swf_store.specs.declared.image.Image.{Image}
use Rattle.swf_store.specs.declared.said.Piece.{Piece}
use Rattle.swf_store.specs.Disk.{NothingNew}
use Rattle.swf_store.specs.Stops.{LeavesOnly}
use Rattle.swf_store.specs.Files.{with_bytes}
use Rattle.swf_journal.specs.declared.reading.Head.{Head}
use Rattle.swf_journal.specs.declared.reading.Head.TheVariants.{Shut, Cut, Open}
use Rattle.swf_journal.specs.Frames.{header, open_gate, length_bytes}
use Rattle.swf_journal.specs.Stands.{Stands, Fits}

-- a journal of fewer than 25 bytes gets the header and a closed gate, and a longer one stays
abbrev pub begun : List ℕ → List ℕ
begun journal = if nat_lt (length journal) 25 then header ++ 0 ∷ [] ++ drop 17 journal else journal

-- what opening makes of an image
abbrev pub opened : Image → Image
opened image = with_bytes image Journal (begun image.journal)

-- a journal that does not begin with the header, or has no gate behind it
abbrev pub HasNoHeader : List ℕ → Type 0
HasNoHeader journal = (take 16 journal ≢ header) ⊎ (length journal ≤ 16)

-- what at most nine bytes from a gate on begin
abbrev pub IsHead : List ℕ → Head → Type 0
IsHead bytes Shut = (gate : ℕ) (rest : List ℕ) → bytes ≡ gate ∷ rest → gate ≢ open_gate
IsHead bytes Cut = (rest : List ℕ) × (bytes ≡ open_gate ∷ rest) × (length bytes < 9)
IsHead bytes (Open len) = (bytes ≡ open_gate ∷ length_bytes len) × (len < 2 ^ 64)

-- the bytes from a gate on are this frame, and a gate follows
pub record IsFrame (behind body after : List ℕ) : Type 0 where
  pub bytes : behind ≡ open_gate ∷ (length_bytes (length body) ++ (body ++ after))
  pub gate : 0 < length after
  pub fits : Fits body

-- what a reading finds at a gate: nothing where it is not open, or the body of a whole frame
abbrev pub IsNext : List ℕ → Option (Vec ℕ Global) → Type 0
IsNext behind None = (gate : ℕ) (rest : List ℕ) → behind ≡ gate ∷ rest → gate ≢ open_gate
IsNext behind (Some body) = (after : List ℕ) × IsFrame behind body.items after

-- an open gate whose frame and next gate pass the end
pub record IsDamage (behind : List ℕ) : Type 0 where
  pub rest : List ℕ
  pub opened : behind ≡ open_gate ∷ rest
  pub no_frame : (body after : List ℕ) → IsFrame behind body after → ⊥

-- the other files stay, and the journal stands for the same frames
pub record KeepsFrames (image left : Image) : Type 0 where
  pub others : left ≡ with_bytes image Journal left.journal
  pub stands : (frames : List (List ℕ)) → Stands image frames → Stands left frames

-- Until a sync has succeeded a stop leaves what it might have left at first, and from then on a journal of the same frames.
abbrev pub Opens : {S : Type 0} → (S → ℕ) → (S → ℕ → Image → List Piece → Type 0) → (S → Option (List Piece)) → (S → Image → Type 0) → S → S → Image → Type 0
Opens {S} moment left_since said may_leave old new image =
    LeavesOnly moment left_since said old new (may_leave old)
    ⊎ ((synced : S) × (said synced ≡ said old) × LeavesOnly moment left_since said old synced (may_leave old) × LeavesOnly moment left_since said synced new (KeepsFrames image))

-- the store is as it was: what reads give, and what a stop at any moment may leave
pub record IsUntouched {S : Type 0} (moment : S → ℕ) (left_since : S → ℕ → Image → List Piece → Type 0) (said : S → Option (List Piece)) (may_leave : S → Image → Type 0) (seen : S → Option Image) (old new : S) : Type 0 where
  pub same : seen new ≡ seen old
  pub stop : NothingNew (may_leave old) (may_leave new)
  pub any_moment : LeavesOnly moment left_since said old new (may_leave old)
