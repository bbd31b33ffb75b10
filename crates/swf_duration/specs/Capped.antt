-- Lengths of which those above the longest are one.
use Rattle.std.specs.Prelude.{ℕ, min}

abbrev pub capped : ℕ → ℕ
capped n = min n 315360000001
