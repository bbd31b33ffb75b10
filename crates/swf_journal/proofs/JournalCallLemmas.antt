-- The calls of openings and readings that fail.
use Rattle.std.proofs.Common.{◌≡◌, ℕ, Bool, nat_lt, Option, List, [], ◌∷◌, Result, Ok, Err, Vec}
use Rattle.std.specs.declared.alloc.Global.{Global}
use Rattle.std.specs.Result.{IsErr}
use Rattle.swf_store.specs.declared.call.Call.{Call}
use Rattle.swf_store.specs.declared.call.Call.TheVariants.{Sync}
use Rattle.swf_store.specs.declared.image.File.{File}
use Rattle.swf_store.specs.Calls.{and_calls, Begins}
use Rattle.swf_store.proofs.CallLemmas.{begins_after, done_after}
use Rattle.swf_journal.specs.declared.fault.OpenFault.{OpenFault}
use Rattle.swf_journal.specs.JournalCalls.{header_calls, IsBegunSynced, IsBegun, frame_calls, IsFrameRead}
use Rattle.swf_journal.specs.Place.{Place}

pub frame_failed : (file : File) (gate : ℕ) (old new : Option (List Call)) (result : Result (Option (Vec ℕ Global)) OpenFault) → IsErr result → (len : ℕ) × Begins (frame_calls file gate len) old new → IsFrameRead file gate old new result
frame_failed file gate old new (Ok x) is begins = absurd (cc)
frame_failed file gate old new (Err e) is begins = begins

pub header_failed : (old new : Option (List Call)) (result : Result Place OpenFault) → IsErr result → (short : Bool) × Begins (header_calls short) old new → IsBegunSynced old new result
header_failed old new (Ok x) is begins = absurd (cc)
header_failed old new (Err e) is begins = begins

pub begun_after : (old mid new : Option (List Call)) (result : Result Place OpenFault) → mid ≡ and_calls (Sync ∷ []) old → IsBegunSynced mid new result → IsBegun old new result
begun_after old mid new (Ok reading) is begun = done_after (Sync ∷ []) (header_calls (nat_lt reading.size 25)) old mid new is begun
begun_after old mid new (Err e) is begun = (begun.0, begins_after (Sync ∷ []) (header_calls begun.0) old mid new is begun.1)
