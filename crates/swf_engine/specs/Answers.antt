-- What the calls of an engine answer, and what each answer leaves.
use Rattle.std.specs.Prelude.{◌≡◌, ℕ, ◌+◌, ◌≤◌, Bool, true, false, List, [], ◌∷◌, ◌++◌, length, Option, Some, None, Result, Ok, Err}
use Rattle.swf_store.specs.declared.call.Call.{Call}
use Rattle.swf_store.specs.declared.image.Image.{Image}
use Rattle.swf_store.specs.declared.said.Piece.{Piece}
use Rattle.swf_meaning.specs.declared.label.Label.{Label}
use Rattle.swf_runs.specs.After.{after, taken_by}
use Rattle.swf_runs.specs.Runs.{is_quiet}
use Rattle.swf_record.specs.Encodes.{labels_bytes}
use Rattle.swf_world.specs.Refusals.{refusal}
use Rattle.swf_world.specs.declared.refusal.PrepareFault.{PrepareFault}
use Rattle.swf_world.specs.declared.refusal.PrepareFault.TheVariants as unready
use Rattle.swf_world.specs.declared.refusal.Refusal.{Refusal}
use Rattle.swf_world.specs.declared.refusal.Refusal.TheVariants.{Refused as NotRead, Duplicate, UnknownDocument, UnknownInstance, Stale, Full as TooMany, Past, NotEnabled}
use Rattle.swf_engine.specs.declared.settle.Settled.{Settled}
use Rattle.swf_engine.specs.declared.engine.Submitted.{Submitted}
use Rattle.swf_engine.specs.declared.engine.Submitted.TheVariants.{Accepted, Refused}
use Rattle.swf_engine.specs.declared.fault.EngineFault.{EngineFault}
use Rattle.swf_engine.specs.declared.fault.EngineFault.TheVariants.{Store, Damaged, Full, OutOfMemory}
use Rattle.swf_store.specs.Calls.{Begins}
use Rattle.swf_engine.specs.Core.{Core, most_bytes}
use Rattle.swf_engine.specs.EngineCalls.{Appends, AppendsLast, label_calls}
use Rattle.swf_engine.specs.Moves.{Adds, Breaks, IsStep, IsFull}
use Rattle.swf_engine.specs.Settling.{Called, AreTaken, IsGroup, is_settled, steps_in}

-- nothing was changed
abbrev pub Stays : {S : Type 0} → S → S → Core → Core → Type 0
Stays old new before later = (new ≡ old) × (later ≡ before)

-- a frame with this label fits the journal
abbrev pub HasRoom : Core → Label → Type 0
HasRoom engine label = engine.gate + 10 + length (labels_bytes (label ∷ [])) ≤ most_bytes

-- a refusal's place is one of a journal of at most so many bytes
abbrev pub IsSmallRefusal : Refusal → Type 0
IsSmallRefusal (NotRead faults) = Unit {0}
IsSmallRefusal (Duplicate place) = place ≤ most_bytes
IsSmallRefusal UnknownDocument = Unit {0}
IsSmallRefusal UnknownInstance = Unit {0}
IsSmallRefusal Stale = Unit {0}
IsSmallRefusal TooMany = Unit {0}
IsSmallRefusal (Past now) = Unit {0}
IsSmallRefusal NotEnabled = Unit {0}

-- the place of an answer is one of a journal of at most so many bytes
abbrev pub IsSmall : Submitted → Type 0
IsSmall (Accepted i) = i.place ≤ most_bytes
IsSmall (Refused r) = IsSmallRefusal r

module _ {S : Type 0} (moment : S → ℕ) (left_since : S → ℕ → Image → List Piece → Type 0) (said : S → Option (List Piece)) (may_leave : S → Image → Type 0) (seen : S → Option Image) where
  -- handing a label in: it was added, or refused for its first cause, or the call was not done
  abbrev pub Submits : S → S → Core → Core → Label → Result Submitted EngineFault → Type 0
  Submits old new before later label (Ok (Accepted i)) =
      Adds moment left_since said may_leave seen old new before later (label ∷ []) × (refusal before.world label ≡ None) × HasRoom before label × (i.place ≡ before.world.count) × (i.taken ≡ taken_by before.world label)
  Submits old new before later label (Ok (Refused r)) = (refusal before.world label ≡ Some r) × (after before.world label ≡ None) × Stays old new before later
  Submits old new before later label (Err Store) = Breaks moment left_since said may_leave seen old new before (label ∷ []) × (refusal before.world label ≡ None) × HasRoom before label
  Submits old new before later label (Err (Damaged at)) = ⊥
  Submits old new before later label (Err (Full size)) = IsFull before (label ∷ []) size × (refusal before.world label ≡ None) × Stays old new before later
  Submits old new before later label (Err OutOfMemory) = Stays old new before later

  module _ (calls : S → Option (List Call)) where
    -- one step: some strand took it and it was appended, or none is enabled
    abbrev pub Steps : S → S → Core → Core → Result Bool EngineFault → Type 0
    Steps old new before later (Ok true) =
        (step : Label) × IsStep step × Adds moment left_since said may_leave seen old new before later (step ∷ []) × Appends (calls old) (calls new) before.gate later.gate (step ∷ [])
    Steps old new before later (Ok false) = (is_quiet before.world ≡ true) × Stays old new before later
    Steps old new before later (Err Store) =
        (step : Label) × IsStep step × Breaks moment left_since said may_leave seen old new before (step ∷ []) × Begins (label_calls before.gate step) (calls old) (calls new)
    Steps old new before later (Err (Damaged at)) = ⊥
    Steps old new before later (Err (Full size)) = (step : Label) × IsStep step × (refusal before.world step ≡ None) × IsFull before (step ∷ []) size × Stays old new before later
    Steps old new before later (Err OutOfMemory) = Stays old new before later

    -- Labels were added: so many steps, and the replies that a board gave to these. One frame was appended after the other.
    pub record Went (steps : ℕ) (called : List Called) (old new : S) (before later : Core) : Type 0 where
      pub labels : List Label
      pub taken : AreTaken before.world labels called
      pub count : length (steps_in labels) ≡ steps
      pub adds : Adds moment left_since said may_leave seen old new before later labels
      pub appended : Appends (calls old) (calls new) before.gate later.gate labels

    -- What was added where a settling was not done. The store failed at the last of these labels, or the next one has no room.
    abbrev pub Fails : ℕ → List Called → S → S → Core → Core → EngineFault → Type 0
    Fails limit called old new before later Store =
        (labels : List Label) × IsGroup before.world labels limit called × Breaks moment left_since said may_leave seen old new before labels × AppendsLast (calls old) (calls new) before.gate labels
    Fails limit called old new before later (Damaged at) = ⊥
    Fails limit called old new before later (Full size) =
        (labels : List Label) × (label : Label) × (refusal later.world label ≡ None) × IsGroup before.world (labels ++ label ∷ []) limit called
        × Adds moment left_since said may_leave seen old new before later labels × Appends (calls old) (calls new) before.gate later.gate labels × IsFull later (label ∷ []) size
    Fails limit called old new before later OutOfMemory =
        (labels : List Label) × IsGroup before.world labels limit called × Adds moment left_since said may_leave seen old new before later labels × Appends (calls old) (calls new) before.gate later.gate labels

    -- asking a board adds the replies that it gives, and no step
    abbrev pub Asks : {T : Type 0} → List Called → S → S → Core → Core → Result T EngineFault → Type 0
    Asks called old new before later (Ok x) = Went 0 called old new before later
    Asks called old new before later (Err fault) = Fails 0 called old new before later fault

    -- A settling takes steps until no strand is enabled, and at most so many. Where a board answers calls, it is asked for each that is
    -- open then, and it goes on until none is.
    abbrev pub Settles : Bool → List Called → S → S → Core → Core → ℕ → Result Settled EngineFault → Type 0
    Settles asks called old new before later limit (Ok settled) =
        Went settled.steps called old new before later × (settled.steps ≤ limit) × (settled.quiet ≡ is_settled asks later.world) × (settled.quiet ≡ false → settled.steps ≡ limit)
    Settles asks called old new before later limit (Err fault) = Fails limit called old new before later fault

-- what a label is answered whose change was not prepared
abbrev pub unprepared : PrepareFault → Result Submitted EngineFault
unprepared (unready.Refused r) = Ok (Refused r)
unprepared unready.OutOfMemory = Err OutOfMemory
