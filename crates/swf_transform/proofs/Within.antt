-- A number that is cut off above a limit is within it exactly where the whole is.
use Rattle.std.proofs.Common.{◌≡◌, ◌<◌, ℕ, min, nat_le, arith}
use Rattle.std.proofs.lemmas.Bool.Decides.{nat_tests}

pub cut_le : (n m k : ℕ) → k < m → nat_le (min n m) k ≡ nat_le n k
cut_le n m k h = grind (arith, nat_tests)
