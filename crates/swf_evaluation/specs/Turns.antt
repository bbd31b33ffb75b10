-- How many turns an evaluation may take.
use Rattle.std.specs.Prelude.{ℕ}

-- the turns that an evaluation may take
abbrev pub limit : ℕ
limit = 1000000
