-- What the words of the command line mean.
use Rattle.std.specs.Prelude.{◌==◌, ℕ, List, [], ◌∷◌, Bool, true, false, length, map, nat_lt, slice_index, Option, Some, None, is_some, option_map, unwrap_or, String, string_bytes, codes, if◌then◌else◌}
use Rattle.std.specs.List.{before_first, after_first, position_or_len}
use Rattle.std.specs.declared.alloc.Global.{Global}
use Rattle.swf_text.specs.Same.{same}
use Rattle.swf_protocol.specs.Number.{budget_of}
use Rattle.swf_words.specs.declared.arguments.Setting.{Setting}
use Rattle.swf_words.specs.declared.arguments.Setting.TheVariants.{Steps, Calls, Workers}
use Rattle.swf_words.specs.declared.words.Mode.{Mode}
use Rattle.swf_words.specs.declared.words.Mode.TheVariants.{Check, Session, Show}
use Rattle.swf_words.specs.declared.words.Words.{Words}

abbrev pub texts : List (String Global) → List (List ℕ)
texts words = map string_bytes words

abbrev pub is_equals : ℕ → Bool
is_equals b = b == 61

-- the parts in front of the first `=` and behind it
abbrev pub parts : List ℕ → Option (List ℕ × List ℕ)
parts w = if nat_lt (position_or_len is_equals w) (length w) then Some (before_first is_equals w, after_first is_equals w) else None

-- the options, each by its name
abbrev pub option_named : List ℕ → Option Setting
option_named w =
    if same w (codes "--steps") then Some Steps
    else (if same w (codes "--calls") then Some Calls
    else (if same w (codes "--workers") then Some Workers
    else None))

abbrev pub value_of : Option Setting → List ℕ → Option (Setting × List ℕ)
value_of None v = None
value_of (Some o) v = Some (o, v)

abbrev pub value_behind : Option (List ℕ × List ℕ) → Option (Setting × List ℕ)
value_behind None = None
value_behind (Some p) = value_of (option_named p.0) p.1

-- the option and the value in a word that is an option's name, `=` and a value
abbrev pub value_in : List ℕ → Option (Setting × List ℕ)
value_in w = value_behind (parts w)

abbrev pub is_dashed : List ℕ → Bool
is_dashed w = slice_index w 0 == 45

-- the words told apart: the values of options, each with its option, and the words that are left
pub record Apart : Type 0 where
  pub values : List (Setting × List ℕ)
  pub others : List (List ℕ)

abbrev pub with_value : Setting × List ℕ → Option Apart → Option Apart
with_value v None = None
with_value v (Some a) = Some (record a { values = v ∷ a.values })

abbrev pub with_other : List ℕ → Option Apart → Option Apart
with_other w None = None
with_other w (Some a) = Some (record a { others = w ∷ a.others })

-- a word that stands alone: an option with its value, or another one, which does not begin with `-`
abbrev pub with_word : List ℕ → Option (Setting × List ℕ) → Bool → Option Apart → Option Apart
with_word w (Some v) dashed a = with_value v a
with_word w None true a = None
with_word w None false a = with_other w a

-- Words from left to right, behind an option that awaits its value or behind none. The first other word that is `--` ends the
-- options.
abbrev pub told_apart : Option Setting → List (List ℕ) → Option Apart
told_apart (Some o) [] = None
told_apart (Some o) (w ∷ ws) = with_value (o, w) (told_apart None ws)
told_apart None [] = Some (record { values = []; others = [] })
told_apart None (w ∷ ws) =
    if is_some (option_named w) then told_apart (option_named w) ws
    else (if same w (codes "--") then Some (record { values = []; others = ws })
    else with_word w (value_in w) (is_dashed w) (told_apart None ws))

-- what options have set
pub record Settings : Type 0 where
  pub steps : Option ℕ
  pub http : Option Bool

-- no option was read
abbrev pub unset : Settings
unset = record { steps = None; http = None }

-- by whom calls are answered
abbrev pub calls_of : List ℕ → Option Bool
calls_of v = if same v (codes "http") then Some true else (if same v (codes "manual") then Some false else None)

-- an option that stands once
abbrev pub once : {A : Type 0} → Option A → Option A → Option A
once (Some x) v = None
once None v = v

-- What a value of an option sets, each by its form: `--steps` a number from 1 to 1,000,000, and `--calls` who answers calls. `--workers`
-- is known, and no value of it is taken yet.
abbrev pub with_setting : Settings → Setting × List ℕ → Option Settings
with_setting s (Steps, v) = option_map (λ n. record s { steps = Some n }) (once s.steps (budget_of v))
with_setting s (Calls, v) = option_map (λ b. record s { http = Some b }) (once s.http (calls_of v))
with_setting s (Workers, v) = None

-- one value after another
abbrev pub set_all : Option Settings → List (Setting × List ℕ) → Option Settings
set_all None vs = None
set_all (Some s) [] = Some s
set_all (Some s) (v ∷ vs) = set_all (with_setting s v) vs

abbrev pub mode_named : List ℕ → Option Mode
mode_named w =
    if same w (codes "check") then Some Check
    else (if same w (codes "session") then Some Session
    else (if same w (codes "show") then Some Show
    else None))

-- the mode is the one word that is left
abbrev pub mode_of : List (List ℕ) → Option Mode
mode_of [] = None
mode_of (w ∷ []) = mode_named w
mode_of (v ∷ w ∷ ws) = None

-- without `--steps` a settling takes at most a thousand steps, and without `--calls` they are answered by hand
abbrev pub both : Option Settings → Option Mode → Option Words
both None m = None
both (Some s) None = None
both (Some s) (Some m) = Some (record { steps = unwrap_or s.steps 1000; http = unwrap_or s.http false; mode = m })

abbrev pub meaning_of : Option Apart → Option Words
meaning_of None = None
meaning_of (Some a) = both (set_all (Some unset) a.values) (mode_of a.others)

abbrev pub words_of : List (List ℕ) → Option Words
words_of ws = meaning_of (told_apart None ws)
