-- The fields of a store in memory.
use Rattle.std.specs.Prelude.{◌≡◌, unwrap_or}
use Rattle.swf_store.specs.declared.memory.MemoryStore.TheInside.{Inside}
use Rattle.swf_store.specs.Memory.{Memory, state_of}
use Rattle.swf_store.specs.Replay.{reads}

abbrev pub memory_view : Inside → Memory
memory_view store = record { first = store.first; failing = store.failing.items; calls = store.calls.items; lacks = store.lacks }

-- what reads give is kept beside the calls that made it
abbrev pub IsMemory : Inside → Type 0
IsMemory store = unwrap_or store.written store.first ≡ reads (state_of (memory_view store))
