-- Which moments of a clock are journalled.
use Rattle.std.specs.Prelude.{ℕ, Bool, nat_lt, nat_le, Option, Some, None, if◌then◌else◌}

-- the last moment that there is, in milliseconds
abbrev pub last_moment : ℕ
last_moment = 4503599627370495

-- the moment of so many milliseconds; what is greater than the last moment is none
abbrev pub moment_of : ℕ → Option ℕ
moment_of t = if nat_le t last_moment then Some t else None

-- the last moment that was told, after one more number of milliseconds; what is no moment counts as absent
abbrev pub after_telling : Option ℕ → ℕ → Option ℕ
after_telling last t = if nat_le t last_moment then Some t else last

-- the moment that is journalled as soon as it is told: one at which some wait is over
abbrev pub at_once : ℕ → Bool → Option ℕ
at_once t due = if due then moment_of t else None

-- the moment that is journalled before an outcome: the last that was told, where it is above now
abbrev pub ahead : Option ℕ → ℕ → Option ℕ
ahead None now = None
ahead (Some t) now = if nat_lt now t then Some t else None
