-- The calls of a store that opening, reading and appending make, in their order.
use Rattle.std.specs.Prelude.{◌≡◌, ℕ, ◌+◌, Bool, true, false, nat_lt, Option, Some, None, List, [], ◌∷◌, ◌++◌, length, Result, Ok, Err, Vec}
use Rattle.std.specs.declared.alloc.Global.{Global}
use Rattle.swf_store.specs.declared.call.Call.{Call}
use Rattle.swf_store.specs.declared.call.Call.TheVariants.{Size, Read, Write, Sync}
use Rattle.swf_store.specs.declared.image.File.{File}
use Rattle.swf_store.specs.declared.image.File.TheVariants.{Journal}
use Rattle.swf_store.specs.Calls.{and_calls, Begins}
use Rattle.swf_journal.specs.declared.fault.OpenFault.{OpenFault}
use Rattle.swf_journal.specs.Frames.{header, open_gate, frame_tail}
use Rattle.swf_journal.specs.Place.{Place}

-- the header is written where the journal is too short for a frame, and read in a longer one
abbrev pub header_calls : Bool → List Call
header_calls true = Size Journal ∷ Write Journal 0 (header ++ 0 ∷ []) ∷ Sync ∷ []
header_calls false = Size Journal ∷ Read Journal 0 16 ∷ []

abbrev pub IsBegunSynced : Option (List Call) → Option (List Call) → Result Place OpenFault → Type 0
IsBegunSynced old new (Ok reading) = new ≡ and_calls (header_calls (nat_lt reading.size 25)) old
IsBegunSynced old new (Err e) = (short : Bool) × Begins (header_calls short) old new

-- after a first sync
abbrev pub IsBegun : Option (List Call) → Option (List Call) → Result Place OpenFault → Type 0
IsBegun old new (Ok reading) = new ≡ and_calls (Sync ∷ header_calls (nat_lt reading.size 25)) old
IsBegun old new (Err e) = (short : Bool) × Begins (Sync ∷ header_calls short) old new

-- nine bytes at a gate, and then a body
abbrev pub frame_calls : File → ℕ → ℕ → List Call
frame_calls file gate len = Read file gate 9 ∷ Read file (gate + 9) len ∷ []

-- no byte is read twice
abbrev pub IsFrameRead : File → ℕ → Option (List Call) → Option (List Call) → Result (Option (Vec ℕ Global)) OpenFault → Type 0
IsFrameRead file gate old new (Ok None) = new ≡ and_calls (Read file gate 9 ∷ []) old
IsFrameRead file gate old new (Ok (Some body)) = new ≡ and_calls (frame_calls file gate (length body.items)) old
IsFrameRead file gate old new (Err e) = (len : ℕ) × Begins (frame_calls file gate len) old new

-- The gate is closed behind the frame, and opened by a write of its own after a sync.
abbrev pub append_calls : File → ℕ → List ℕ → List Call
append_calls file at body = Write file (at + 1) (frame_tail body) ∷ Sync ∷ Write file at (open_gate ∷ []) ∷ Sync ∷ []
