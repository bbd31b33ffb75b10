-- Numbers that go on no further than 9007199254740992 either side of zero.
use Rattle.std.specs.Prelude.{ℕ, ◌-◌, ◌^◌, ℤ, pos, negsuc, min}

abbrev pub capped : ℕ → ℕ
capped n = min n (2 ^ 53)

abbrev pub held : ℤ → ℤ
held (pos n) = pos (min n (2 ^ 53))
held (negsuc n) = negsuc (min n (2 ^ 53 - 1))
