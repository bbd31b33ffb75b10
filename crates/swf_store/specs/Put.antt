-- What a write makes of a file's bytes.
use Rattle.std.specs.Prelude.{ℕ, ◌+◌, ◌-◌, List, ◌++◌, length, take, drop, replicate}

-- the bytes after a whole write at a place: a gap before it holds zeros
abbrev pub put : List ℕ → ℕ → List ℕ → List ℕ
put old at bytes = take at old ++ replicate (at - length old) 0 ++ bytes ++ drop (at + length bytes) old
