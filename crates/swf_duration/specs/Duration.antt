-- How long a duration is, in milliseconds (DSL 1.0.0, reference, "Duration"; ISO 8601-1:2019, 5.5.2.2).
use Rattle.std.specs.Prelude.{◌==◌, ◌&&◌, ◌+◌, ◌-◌, ◌*◌, ◌^◌, ℕ, pos, List, [], ◌∷◌, Bool, length, drop, take, fold, codes, slice_index, nat_le, nat_lt, Option, Some, None, option_map, Result, Ok, Err, if◌then◌else◌}
use Rattle.std.specs.List.{prefix_len}
use Rattle.swf_text.specs.Ascii.{is_digit}
use Rattle.swf_text.specs.Same.{same}
use Rattle.swf_value.specs.Value.{Value, int, text, object, Members, no_members, member}
use Rattle.swf_duration.specs.declared.duration.DurationFault.{DurationFault}
use Rattle.swf_duration.specs.declared.duration.DurationFault.TheVariants.{WrongKind, BadText, TooLong}

-- the longest duration
abbrev pub longest : ℕ
longest = 315360000000

-- a length that was found, if it is not too long
abbrev pub within_longest : DurationFault → Option ℕ → Result ℕ DurationFault
within_longest f None = Err f
within_longest f (Some n) = if nat_le n longest then Ok n else Err TooLong

-- the milliseconds of a unit
abbrev pub unit_of : List ℕ → Option ℕ
unit_of k =
    if same k (codes "days") then Some 86400000
    else (if same k (codes "hours") then Some 3600000
    else (if same k (codes "minutes") then Some 60000
    else (if same k (codes "seconds") then Some 1000
    else (if same k (codes "milliseconds") then Some 1
    else None))))

-- how many of a unit a member counts
abbrev pub amount_of : Value → Option ℕ
amount_of (int (pos n)) = Some n
amount_of v = None

-- a product of what is there
abbrev pub product : Option ℕ → Option ℕ → Option ℕ
product (Some u) (Some n) = Some (u * n)
product u n = None

abbrev pub total : Option ℕ → Option ℕ → Option ℕ
total (Some m) (Some n) = Some (m + n)
total m n = None

-- the sum of all members, each a unit with a whole number of at least 0
abbrev pub sum_of : Members → Option ℕ
sum_of no_members = Some 0
sum_of (member k d ms) = total (product (unit_of k) (amount_of d)) (sum_of ms)

-- the same, where there is a member
abbrev pub members_length : Members → Option ℕ
members_length no_members = None
members_length (member k d ms) = sum_of (member k d ms)

-- how many digits the text begins with
abbrev pub digits_in : List ℕ → ℕ
digits_in t = prefix_len is_digit t

-- the number that digits are
abbrev pub number : List ℕ → ℕ
number t = fold (λ n c. 10 * n + (c - 48)) 0 t

-- whether the text begins with digits, and this letter after them
abbrev pub counts : ℕ → List ℕ → Bool
counts c t = nat_lt 0 (digits_in t) && nat_lt (digits_in t) (length t) && slice_index t (digits_in t) == c

-- the number at the start
abbrev pub count_in : List ℕ → ℕ
count_in t = number (take (digits_in t) t)

-- what follows the digits at the start and the letter after them
abbrev pub past : List ℕ → List ℕ
past t = drop (digits_in t + 1) t

-- a length, and the text that is left
pub record Part : Type 0 where
  pub length_is : ℕ
  pub rest : List ℕ

-- what the digits and the letter at the start count, if they stand there
abbrev pub part : ℕ → ℕ → List ℕ → Part
part c u t = if counts c t then record { length_is = u * count_in t; rest = past t } else record { length_is = 0; rest = t }

-- one to three digits after the point
abbrev pub is_fraction : List ℕ → Bool
is_fraction t = counts 83 t && nat_le (digits_in t) 3

-- seconds with a fraction, if they stand at the start
abbrev pub fraction : List ℕ → Part
fraction t =
    if counts 46 t && is_fraction (past t)
    then record { length_is = 1000 * count_in t + 10 ^ (3 - digits_in (past t)) * count_in (past t); rest = past (past t) }
    else record { length_is = 0; rest = t }

abbrev pub seconds : List ℕ → Part
seconds t = if counts 83 t then part 83 1000 t else fraction t

-- the length, if all of the text was used
abbrev pub used : ℕ → List ℕ → Option ℕ
used n [] = Some n
used n (c ∷ cs) = None

-- what follows the `T`: hours, minutes and seconds, of which one is there
abbrev pub time_length : List ℕ → Option ℕ
time_length [] = None
time_length (c ∷ cs) =
    let h = part 72 3600000 (c ∷ cs) in
    let m = part 77 60000 h.rest in
    let s = seconds m.rest in
    used (h.length_is + m.length_is + s.length_is) s.rest

-- what follows the days: nothing, or `T` and a time
abbrev pub days_and_time : ℕ → List ℕ → Option ℕ
days_and_time n [] = Some n
days_and_time n (c ∷ cs) = if c == 84 then option_map (λ m. n + m) (time_length cs) else None

-- what follows the `P`: days, a time, or both
abbrev pub date_length : List ℕ → Option ℕ
date_length [] = None
date_length (c ∷ cs) = let d = part 68 86400000 (c ∷ cs) in days_and_time d.length_is d.rest

abbrev pub text_length : List ℕ → Option ℕ
text_length [] = None
text_length (c ∷ cs) = if c == 80 then date_length cs else None

-- the milliseconds of a duration, or why it is none
abbrev pub duration_of : Value → Result ℕ DurationFault
duration_of (text t) = within_longest BadText (text_length t)
duration_of (object ms) = within_longest WrongKind (members_length ms)
duration_of v = Err WrongKind
