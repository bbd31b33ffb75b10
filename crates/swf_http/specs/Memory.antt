-- A source and a sink in memory: what is left, what was written, and their counts.
use Rattle.std.specs.Prelude.{◌≡◌, ◌⊎◌, ℕ, ◌+◌, ◌-◌, ◌^◌, min, List, length, drop, Result, Ok, Err}
use Rattle.std.specs.List.{Contains}
use Rattle.swf_http.specs.declared.memory_source.MemorySource.{MemorySource}
use Rattle.swf_http.specs.declared.memory_sink.MemorySink.{MemorySink}

abbrev pub left_of : MemorySource → List ℕ
left_of source = drop source.at source.bytes.items

abbrev pub piece_of : MemorySource → ℕ
piece_of source = source.piece

abbrev pub failing_of : MemorySource → List ℕ
failing_of source = source.failing.items

abbrev pub calls_of : MemorySource → ℕ
calls_of source = source.calls

abbrev pub faults_of : MemorySource → ℕ
faults_of source = source.faults

abbrev pub sink_written : MemorySink → List ℕ
sink_written sink = sink.written.items

abbrev pub sink_piece : MemorySink → ℕ
sink_piece sink = sink.piece

abbrev pub sink_failing : MemorySink → List ℕ
sink_failing sink = sink.failing.items

abbrev pub sink_calls : MemorySink → ℕ
sink_calls sink = sink.calls

abbrev pub sink_faults : MemorySink → ℕ
sink_faults sink = sink.faults

-- how many calls found no memory
abbrev pub sink_lacks : MemorySink → ℕ
sink_lacks sink = sink.lacks

-- what no read of a source, and no write to a sink, changes: how much comes at once, and which calls fail
abbrev pub source_kept : MemorySource → ℕ × List ℕ
source_kept source = (piece_of source, failing_of source)

abbrev pub sink_kept : MemorySink → ℕ × List ℕ
sink_kept sink = (sink_piece sink, sink_failing sink)

-- a count goes up by one, or stands at the end of its type
abbrev pub one_more : ℕ → ℕ
one_more n = min (n + 1) (2 ^ 64 - 1)

-- the call's number is on the list, or it is not and the call finds no memory
abbrev pub FailsCall : MemorySink → MemorySink → Type 0
FailsCall old new =
    (Contains (sink_failing old) (sink_calls old) × (sink_lacks new ≡ sink_lacks old))
    ⊎ ((¬ (Contains (sink_failing old) (sink_calls old))) × (sink_lacks new ≡ one_more (sink_lacks old)))

-- each call counts; as much as goes in one piece is taken, unless the call fails
abbrev pub TakesPiece : {E : Type 0} → List ℕ → MemorySink → MemorySink → Result ℕ E → Type 0
TakesPiece bytes old new (Ok n) =
    (n ≡ min (length bytes) (sink_piece old)) × (sink_lacks new ≡ sink_lacks old)
    × (sink_calls new ≡ one_more (sink_calls old)) × (¬ (Contains (sink_failing old) (sink_calls old)))
TakesPiece bytes old new (Err e) = (sink_calls new ≡ one_more (sink_calls old)) × FailsCall old new
