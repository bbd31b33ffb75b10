-- The calls of a store that the calls of an engine make: one append after the other, or one reading of the frames in their order.
use Rattle.std.specs.Prelude.{◌≡◌, ◌⊎◌, ℕ, ◌+◌, Bool, true, false, Option, List, [], ◌∷◌, ◌++◌, length, map, Result, Ok, Err}
use Rattle.swf_store.specs.declared.call.Call.{Call}
use Rattle.swf_store.specs.declared.call.Call.TheVariants.{Read, Sync}
use Rattle.swf_store.specs.declared.image.File.TheVariants.{Journal}
use Rattle.swf_store.specs.Calls.{and_calls, Begins}
use Rattle.swf_journal.specs.JournalCalls.{append_calls, header_calls, frame_calls}
use Rattle.swf_meaning.specs.declared.label.Answer.{Answer}
use Rattle.swf_meaning.specs.declared.label.Label.{Label}
use Rattle.swf_meaning.specs.declared.label.Query.{Query}
use Rattle.swf_meaning.specs.declared.label.Query.TheVariants.{Status as OfStatus, Pending as OfPending, Outbox as OfOutbox, History as OfHistory}
use Rattle.swf_record.specs.Encodes.{labels_bytes}
use Rattle.swf_world.specs.declared.query.QueryFault.{QueryFault}
use Rattle.swf_engine.specs.declared.engine.Submitted.{Submitted}
use Rattle.swf_engine.specs.declared.engine.Submitted.TheVariants.{Accepted, Refused}
use Rattle.swf_engine.specs.declared.fault.EngineFault.{EngineFault}
use Rattle.swf_engine.specs.declared.fault.EngineFault.TheVariants.{Store, Damaged, Full, OutOfMemory}
use Rattle.swf_engine.specs.Core.{Core}

-- the place of the gate behind frames whose bodies have these lengths
abbrev pub gate_behind : ℕ → List ℕ → ℕ
gate_behind gate [] = gate
gate_behind gate (len ∷ lens) = gate_behind (gate + 9 + len) lens

-- how long the body of a frame with this label is
abbrev pub label_length : Label → ℕ
label_length label = length (labels_bytes (label ∷ []))

-- one append at a gate, of the frame of a label
abbrev pub label_calls : ℕ → Label → List Call
label_calls gate label = append_calls Journal gate (labels_bytes (label ∷ []))

-- one append after the other, each at the gate behind the frame before
abbrev pub appends_calls : ℕ → List Label → List Call
appends_calls gate [] = []
appends_calls gate (label ∷ labels) = label_calls gate label ++ appends_calls (gate + 9 + label_length label) labels

-- these labels were appended, and no other call was made
pub record Appends (old new : Option (List Call)) (gate next : ℕ) (labels : List Label) : Type 0 where
  pub made : new ≡ and_calls (appends_calls gate labels) old
  pub here : next ≡ gate_behind gate (map label_length labels)

-- all of these labels but the last were appended, and the append of the last was begun
pub record AppendsLast (old new : Option (List Call)) (gate : ℕ) (labels : List Label) : Type 0 where
  pub first : List Label
  pub last : Label
  pub joined : labels ≡ first ++ last ∷ []
  pub begun : Begins (label_calls (gate_behind gate (map label_length first)) last) (and_calls (appends_calls gate first) old) new

-- a label that is handed in is appended where it is accepted, and no call is made where it is not taken
abbrev pub SubmitCalls : Option (List Call) → Option (List Call) → ℕ → ℕ → Label → Result Submitted EngineFault → Type 0
SubmitCalls old new gate next label (Ok (Accepted i)) = Appends old new gate next (label ∷ [])
SubmitCalls old new gate next label (Ok (Refused r)) = new ≡ old
SubmitCalls old new gate next label (Err Store) = Begins (label_calls gate label) old new
SubmitCalls old new gate next label (Err (Damaged at)) = ⊥
SubmitCalls old new gate next label (Err (Full size)) = new ≡ old
SubmitCalls old new gate next label (Err OutOfMemory) = new ≡ old

-- frames whose bodies have these lengths are read, each once, in their order
abbrev pub frames_calls : ℕ → List ℕ → List Call
frames_calls gate [] = []
frames_calls gate (len ∷ lens) = frame_calls Journal gate len ++ frames_calls (gate + 9 + len) lens

-- and then the gate behind them, where the reading ends
abbrev pub reading_calls : ℕ → List ℕ → List Call
reading_calls gate lens = frames_calls gate lens ++ Read Journal (gate_behind gate lens) 9 ∷ []

-- behind these calls all frames from a gate on were read, to the gate where the reading ended
pub record AllRead (first : List Call) (gate next : ℕ) (old new : Option (List Call)) : Type 0 where
  pub lens : List ℕ
  pub made : new ≡ and_calls (first ++ reading_calls gate lens) old
  pub here : next ≡ gate_behind gate lens

-- behind these calls frames from a gate on were read, to the last one or not
pub record SomeRead (first : List Call) (gate : ℕ) (old new : Option (List Call)) : Type 0 where
  pub lens : List ℕ
  pub made : (new ≡ and_calls (first ++ frames_calls gate lens) old) ⊎ (new ≡ and_calls (first ++ reading_calls gate lens) old)

-- the first of such calls were made, and no other
pub record ReadingBegun (first : List Call) (gate : ℕ) (old new : Option (List Call)) : Type 0 where
  pub lens : List ℕ
  pub begun : Begins (first ++ reading_calls gate lens) old new

-- one opening: a sync, the header, and all frames
abbrev pub OpenCalls : Option (List Call) → Option (List Call) → Result Core EngineFault → Type 0
OpenCalls old new (Ok engine) = (short : Bool) × AllRead (Sync ∷ header_calls short) 16 engine.gate old new
OpenCalls old new (Err fault) = (short : Bool) × ReadingBegun (Sync ∷ header_calls short) 16 old new

-- a history is told by the header and the frames, which are read again, and any other query without a call
abbrev pub QueryCalls : Query → Option (List Call) → Option (List Call) → Result (Result Answer QueryFault) EngineFault → Type 0
QueryCalls (OfStatus id) old new r = new ≡ old
QueryCalls OfPending old new r = new ≡ old
QueryCalls (OfOutbox n) old new r = new ≡ old
QueryCalls (OfHistory place) old new (Ok answer) = SomeRead (header_calls false) 16 old new
QueryCalls (OfHistory place) old new (Err fault) = ReadingBegun (header_calls false) 16 old new

-- reading on: one frame more, or its gate, where the reading ends
abbrev pub FrameCalls : ℕ → ℕ → Option (List Call) → Option (List Call) → Result Bool EngineFault → Type 0
FrameCalls gate next old new (Ok true) = (len : ℕ) × (new ≡ and_calls (frame_calls Journal gate len) old) × (next ≡ gate + 9 + len)
FrameCalls gate next old new (Ok false) = (new ≡ and_calls (Read Journal gate 9 ∷ []) old) × (next ≡ gate)
FrameCalls gate next old new (Err fault) = (len : ℕ) × Begins (frame_calls Journal gate len) old new
