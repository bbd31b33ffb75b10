-- The digits of a number are ASCII.
use Rattle.std.proofs.Common.{◌≡◌, ◌<◌, ◌^◌, ℕ, chars}
use Rattle.std.specs.Prelude.{decimal}
use Rattle.std.proofs.lemmas.Fmt.{IsAscii-decimal}
use Rattle.std.proofs.lemmas.Str.{chars-IsAscii}

pub chars_decimal : (n : ℕ) → n < 2 ^ 64 → chars (decimal n) ≡ decimal n
chars_decimal n h = chars-IsAscii (decimal n) (IsAscii-decimal n h)
