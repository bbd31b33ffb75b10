-- Which number a word spells.
use Rattle.std.specs.Prelude.{◌==◌, ◌&&◌, ◌||◌, ◌+◌, ◌-◌, ◌*◌, ◌^◌, ℕ, List, Bool, not, length, slice_index, nat_le, nat_lt, Option, Some, None, if◌then◌else◌, fold}
use Rattle.std.specs.List.{list_all}
use Rattle.swf_text.specs.Ascii.{is_digit}

abbrev pub value_of_digits : List ℕ → ℕ
value_of_digits t = fold (λ n d. n * 10 + (d - 48)) 0 t

-- `0`, or digits without a leading zero
abbrev pub is_number : List ℕ → Bool
is_number t = nat_lt 0 (length t) && list_all is_digit t && (length t == 1 || not (slice_index t 0 == 48))

-- a number, of at most 18446744073709551615
abbrev pub number_of : List ℕ → Option ℕ
number_of t = if is_number t && nat_lt (value_of_digits t) (2 ^ 64) then Some (value_of_digits t) else None

abbrev pub greatest_budget : ℕ
greatest_budget = 1000000

abbrev pub budget : Option ℕ → Option ℕ
budget None = None
budget (Some n) = if nat_lt 0 n && nat_le n greatest_budget then Some n else None

-- a number from 1 to 1,000,000
abbrev pub budget_of : List ℕ → Option ℕ
budget_of t = budget (number_of t)

abbrev pub last_moment : ℕ
last_moment = 4503599627370495

abbrev pub in_time : Option ℕ → Option ℕ
in_time None = None
in_time (Some n) = if nat_le n last_moment then Some n else None

-- a number of at most 4503599627370495
abbrev pub moment_in : List ℕ → Option ℕ
moment_in t = in_time (number_of t)
