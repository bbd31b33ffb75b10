-- What a step adds, by what adding a label does.
use Rattle.std.proofs.Common.{◌≡◌, ◌∙◌, ap, sym, refl, subst, ℕ, ◌+◌, ◌≤◌, ◌<◌, List, [], ◌∷◌, ◌++◌, length, Bool, true, false, Option, None, Result, Ok, Err, arith, length-append}
use Rattle.std.specs.List.{AllByRecursion}
use Rattle.swf_store.specs.declared.image.File.TheVariants.{Journal}
use Rattle.swf_store.specs.declared.call.Call.{Call}
use Rattle.swf_store.specs.declared.image.Image.{Image}
use Rattle.swf_store.specs.declared.said.Piece.{Piece}
use Rattle.swf_store.specs.Files.{bytes_of}
use Rattle.swf_journal.specs.Place.{Gate, IsJournalOf}
use Rattle.swf_meaning.specs.declared.label.Label.{Label}
use Rattle.swf_runs.specs.Runs.{is_quiet}
use Rattle.swf_meaning.specs.World.{World}
use Rattle.swf_world.specs.Early.{IsEarlyRefusal}
use Rattle.swf_world.specs.Prepares.{CanGo}
use Rattle.swf_world.specs.Refusals.{refusal}
use Rattle.swf_world.specs.declared.refusal.Refusal.{Refusal}
use Rattle.swf_world.specs.declared.refusal.Refusal.TheVariants.{Refused as NotRead, Duplicate, UnknownDocument, UnknownInstance, Stale, Full as TooMany, Past, NotEnabled}
use Rattle.swf_engine.specs.declared.engine.Submitted.{Submitted}
use Rattle.swf_engine.specs.declared.engine.Submitted.TheVariants.{Accepted, Refused}
use Rattle.swf_engine.specs.declared.fault.EngineFault.{EngineFault}
use Rattle.swf_engine.specs.declared.fault.EngineFault.TheVariants.{Store, Damaged, Full, OutOfMemory}
use Rattle.swf_engine.specs.Answers.{Submits, Steps, IsSmallRefusal}
use Rattle.swf_engine.specs.Causes.{WhereUsable, EngineCause, of_append}
use Rattle.swf_journal.specs.Causes.{AppendCause}
use Rattle.swf_journal.specs.declared.fault.AppendFault.{AppendFault}
use Rattle.swf_journal.specs.declared.fault.AppendFault.TheVariants.{Store as AppendStore, Full as AppendFull}
use Rattle.swf_engine.specs.Core.{Core, IsEngineOf}
use Rattle.swf_engine.specs.EngineCalls.{SubmitCalls}
use Rattle.swf_engine.specs.Moves.{IsStep}

-- the gate of a journal in the journal's file
pub engine_of : (seen : Option Image) (gate : Gate) (w : World) → gate.file ≡ Journal → IsJournalOf seen gate → IsEngineOf seen (record { world = w; gate = gate.at })
engine_of seen gate w is place = λ image told. subst (λ f. gate.at < length (bytes_of image f)) is (place image told)

-- what may be used where one thing holds may be used where another follows
pub where_usable : {T : Type 0} (r : Result T EngineFault) (P Q : Type 0) → WhereUsable r P → (P → Q) → WhereUsable r Q
where_usable (Ok x) P Q h f = f h
where_usable (Err Store) P Q h f = tt
where_usable (Err (Damaged at)) P Q h f = tt
where_usable (Err (Full size)) P Q h f = tt
where_usable (Err OutOfMemory) P Q h f = f h

-- the same of a fault, whatever the answer would have been
pub where_fault : (T U : Type 0) (fault : EngineFault) (P Q : Type 0) → WhereUsable {T = T} (Err fault) P → (P → Q) → WhereUsable {T = U} (Err fault) Q
where_fault T U Store P Q h f = tt
where_fault T U (Damaged at) P Q h f = tt
where_fault T U (Full size) P Q h f = tt
where_fault T U OutOfMemory P Q h f = f h

-- after an append that was not done the engine is not used again
pub where_append : (T : Type 0) (fault : AppendFault) (e : EngineFault) (P : Type 0) → e ≡ of_append fault → WhereUsable {T = T} (Err e) P
where_append T AppendStore e P is = subst (λ (x : EngineFault). WhereUsable {T = T} (Err x) P) (sym is) tt
where_append T (AppendFull size) e P is = subst (λ (x : EngineFault). WhereUsable {T = T} (Err x) P) (sym is) tt

-- it blames the store as the journal does
pub cause_append : (T : Type 0) (fault : AppendFault) (e : EngineFault) (old new : ℕ) → e ≡ of_append fault → AppendCause {T = Unit {0}} old new (Err fault) → EngineCause {T = T} old new (Err e)
cause_append T AppendStore e old new is c = subst (λ (x : EngineFault). EngineCause {T = T} old new (Err x)) (sym is) c
cause_append T (AppendFull size) e old new is c = subst (λ (x : EngineFault). EngineCause {T = T} old new (Err x)) (sym is) c

-- a world's places are those of a journal
pub small_refusal : (r : Refusal) → IsEarlyRefusal r → IsSmallRefusal r
small_refusal (NotRead faults) e = tt
small_refusal (Duplicate place) e = e
small_refusal UnknownDocument e = tt
small_refusal UnknownInstance e = tt
small_refusal Stale e = tt
small_refusal TooMany e = tt
small_refusal (Past now) e = tt
small_refusal NotEnabled e = tt

pub is_step : (w : World) (label : Label) → CanGo w label → IsStep label
is_step w label can = subst IsStep (sym can.step) tt

module _ {S : Type 0} (moment : S → ℕ) (left_since : S → ℕ → Image → List Piece → Type 0) (said : S → Option (List Piece)) (may_leave : S → Image → Type 0) (seen : S → Option Image) (calls : S → Option (List Call)) where
  -- a step that can be taken is taken
  pub stepped : (old new : S) (before later : Core) (label : Label) (submitted : Submitted) → CanGo before.world label → Submits moment left_since said may_leave seen old new before later label (Ok submitted)
      → SubmitCalls (calls old) (calls new) before.gate later.gate label (Ok submitted) → Steps moment left_since said may_leave seen calls old new before later (Ok true)
  stepped old new before later label (Accepted i) can s made = (label, is_step before.world label can, s.0, made)
  stepped old new before later label (Refused r) can s made = let there = can.after in let none = s.1 in absurd (cc)

  -- or its frame was not appended
  pub not_stepped : (old new : S) (before later : Core) (label : Label) (fault : EngineFault) → CanGo before.world label → Submits moment left_since said may_leave seen old new before later label (Err fault)
      → SubmitCalls (calls old) (calls new) before.gate later.gate label (Err fault) → Steps moment left_since said may_leave seen calls old new before later (Err fault)
  not_stepped old new before later label Store can s begun = (label, is_step before.world label can, s.0, begun)
  not_stepped old new before later label (Damaged at) can s begun = s
  not_stepped old new before later label (Full size) can s begun = (label, is_step before.world label can, s.1, s.0, s.2)
  not_stepped old new before later label OutOfMemory can s begun = s
