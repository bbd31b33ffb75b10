-- Which answers say that the store failed.
use Rattle.std.specs.Prelude.{◌≡◌, ℕ, Result, Ok, Err}
use Rattle.swf_store.specs.Faults.{RoseOnce}
use Rattle.swf_journal.specs.declared.fault.AppendFault.{AppendFault}
use Rattle.swf_journal.specs.declared.fault.AppendFault.TheVariants.{Store as AppendStore, Full}
use Rattle.swf_journal.specs.declared.fault.OpenFault.{OpenFault}
use Rattle.swf_journal.specs.declared.fault.OpenFault.TheVariants.{Store as OpenStore, Damaged, OutOfMemory}

-- the count of the store's faults rises by one where this is the answer, and stays at every other
abbrev pub OpenCause : {T : Type 0} → ℕ → ℕ → Result T OpenFault → Type 0
OpenCause before now (Ok x) = now ≡ before
OpenCause before now (Err OpenStore) = RoseOnce before now
OpenCause before now (Err (Damaged at)) = now ≡ before
OpenCause before now (Err OutOfMemory) = now ≡ before

abbrev pub AppendCause : {T : Type 0} → ℕ → ℕ → Result T AppendFault → Type 0
AppendCause before now (Ok x) = now ≡ before
AppendCause before now (Err AppendStore) = RoseOnce before now
AppendCause before now (Err (Full size)) = now ≡ before
