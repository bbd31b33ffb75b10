use Rattle.std.proofs.Common.{◌≡◌, ◌++◌, ◌+◌, ◌≤◌, ℕ, List, drop, length, flat_map}
use Rattle.swf_value.specs.Written.{escaped_byte, Extends}
use Rattle.swf_value.proofs.write.write_bytes.Given as goal

abbrev pub invariant-loop-index : goal.invariant-loop-index
invariant-loop-index l =
    (run : List ℕ) × (drop l.start l.bytes ≡ run ++ drop l.index l.bytes) × (l.start + length run ≡ l.index) × (l.index ≤ length l.bytes)
    × (l.out.items ++ (run ++ flat_map escaped_byte (drop l.index l.bytes)) ≡ l.fn.out.items ++ flat_map escaped_byte l.bytes)
    × Extends l.fn.out.items l.out.items
