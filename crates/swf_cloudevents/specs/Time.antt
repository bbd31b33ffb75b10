-- Which text is an instant (RFC 3339, section 5.6, with `T` and `Z` in upper case).
use Rattle.std.specs.Prelude.{◌==◌, ◌&&◌, ◌||◌, ◌+◌, ◌-◌, ◌*◌, ℕ, List, [], ◌∷◌, Bool, false, codes, take, drop, not, nat_le, nat_lt, if◌then◌else◌}
use Rattle.std.specs.Cmp.Lexicographic.{pointwise}
use Rattle.std.specs.List.{position_or_len}
use Rattle.std.specs.Result.{is_ok}
use Rattle.std.specs.Str.{encode_utf8_all}
use Rattle.jiff.specs.Words.{parse_timestamp}
use Rattle.swf_text.specs.Ascii.{is_digit}
use Rattle.swf_text.specs.Same.{same}

-- in a template `0` stands for each digit, and any other character for itself
abbrev pub stands_for : ℕ → ℕ → Bool
stands_for c d = if c == 48 then is_digit d else c == d

-- a text with the characters of a template
abbrev pub fits : List ℕ → List ℕ → Bool
fits template t = pointwise stands_for template t

-- the hours of a day, by their two characters
abbrev pub is_hour : ℕ → ℕ → Bool
is_hour c d = is_digit c && (is_digit d && nat_lt (10 * (c - 48) + (d - 48)) 24)

-- a sign, hours and minutes
abbrev pub is_offset : List ℕ → Bool
is_offset (s ∷ c ∷ d ∷ t) = (s == 43 || s == 45) && (is_hour c d && fits (codes ":00") t)
is_offset t = false

abbrev pub is_zone : List ℕ → Bool
is_zone t = same t (codes "Z") || is_offset t

-- one to nine digits, and the zone
abbrev pub is_fraction : List ℕ → Bool
is_fraction t = let n = position_or_len (λ c. not (is_digit c)) t in nat_le 1 n && (nat_le n 9 && is_zone (drop n t))

-- behind the seconds
abbrev pub is_tail : List ℕ → Bool
is_tail [] = false
is_tail (c ∷ t) = if c == 46 then is_fraction t else is_zone (c ∷ t)

-- `2026-11-28T08:49:41.5+01:00`
abbrev pub has_form : List ℕ → Bool
has_form t = fits (codes "0000-00-00T00:00:00") (take 19 t) && is_tail (drop 19 t)

-- a text of the form, all ASCII, that is an instant between the first and the last one
abbrev pub is_time : List ℕ → Bool
is_time t = let bytes = encode_utf8_all t in has_form bytes && is_ok (parse_timestamp bytes)
