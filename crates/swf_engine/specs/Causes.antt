-- Which answers of an engine say that the store failed.
use Rattle.std.specs.Prelude.{◌≡◌, ℕ, Result, Ok, Err}
use Rattle.swf_store.specs.Faults.{RoseOnce}
use Rattle.swf_journal.specs.declared.fault.AppendFault.{AppendFault}
use Rattle.swf_journal.specs.declared.fault.AppendFault.TheVariants.{Store as AppendStore, Full as AppendFull}
use Rattle.swf_journal.specs.declared.fault.OpenFault.{OpenFault}
use Rattle.swf_journal.specs.declared.fault.OpenFault.TheVariants.{Store as OpenStore, Damaged as OpenDamaged, OutOfMemory as OpenOutOfMemory}
use Rattle.swf_engine.specs.declared.fault.EngineFault.{EngineFault}
use Rattle.swf_engine.specs.declared.fault.EngineFault.TheVariants.{Store, Damaged, Full, OutOfMemory}

-- what a fault of the journal is to an engine
abbrev pub of_open : OpenFault → EngineFault
of_open OpenStore = Store
of_open (OpenDamaged at) = Damaged at
of_open OpenOutOfMemory = OutOfMemory

abbrev pub of_append : AppendFault → EngineFault
of_append AppendStore = Store
of_append (AppendFull size) = Full size

-- the count of the store's faults rises by one where this is the answer, and stays at every other
abbrev pub EngineCause : {T : Type 0} → ℕ → ℕ → Result T EngineFault → Type 0
EngineCause before now (Ok x) = now ≡ before
EngineCause before now (Err Store) = RoseOnce before now
EngineCause before now (Err (Damaged at)) = now ≡ before
EngineCause before now (Err (Full size)) = now ≡ before
EngineCause before now (Err OutOfMemory) = now ≡ before

-- what holds where the engine may be used again
abbrev pub WhereUsable : {T : Type 0} → Result T EngineFault → Type 0 → Type 0
WhereUsable (Ok x) P = P
WhereUsable (Err Store) P = Unit {0}
WhereUsable (Err (Damaged at)) P = Unit {0}
WhereUsable (Err (Full size)) P = Unit {0}
WhereUsable (Err OutOfMemory) P = P
