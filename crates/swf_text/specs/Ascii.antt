-- The letters and digits of ASCII, by their code points (RFC 20).
use Rattle.std.specs.Prelude.{◌&&◌, ◌||◌, ℕ, Bool, nat_le}

abbrev pub is_digit : ℕ → Bool
is_digit c = nat_le 48 c && nat_le c 57

abbrev pub is_lower : ℕ → Bool
is_lower c = nat_le 97 c && nat_le c 122

abbrev pub is_upper : ℕ → Bool
is_upper c = nat_le 65 c && nat_le c 90

abbrev pub is_letter : ℕ → Bool
is_letter c = is_lower c || is_upper c
