-- How far words were read, and what that is to their meaning.
use Rattle.std.specs.Prelude.{◌≡◌, ℕ, List, [], ◌∷◌, Bool, true, false, Option, Some, None}
use Rattle.swf_words.specs.declared.arguments.Expects.{Expects}
use Rattle.swf_words.specs.declared.arguments.Expects.TheVariants.{Any, Value, Other}
use Rattle.swf_words.specs.declared.arguments.Progress.{Progress}
use Rattle.swf_words.specs.declared.arguments.Setting.{Setting}
use Rattle.swf_words.specs.declared.words.Mode.{Mode}
use Rattle.swf_words.specs.declared.words.Words.{Words}
use Rattle.swf_words.specs.Words.{Apart, Settings, told_apart, with_value, with_other, set_all, mode_of, both}

-- the words to come, told apart
abbrev pub told_behind : Expects → List (List ℕ) → Option Apart
told_behind Any ws = told_apart None ws
told_behind (Value o) ws = told_apart (Some o) ws
told_behind Other ws = Some (record { values = []; others = ws })

-- with what was read before
abbrev pub mode_with : Option Mode → List (List ℕ) → Option Mode
mode_with None ws = mode_of ws
mode_with (Some m) [] = Some m
mode_with (Some m) (w ∷ ws) = None

abbrev pub meaning_with : Option Settings → Option Mode → Option Apart → Option Words
meaning_with s mode None = None
meaning_with s mode (Some a) = both (set_all s a.values) (mode_with mode a.others)

-- what options have set so far
abbrev pub settings_of : Progress → Option Settings
settings_of p = Some (record { steps = p.steps; http = p.http })

-- what is meant behind what was read, by the words to come
abbrev pub meant : Progress → List (List ℕ) → Option Words
meant p ws = meaning_with (settings_of p) p.mode (told_behind p.expects ws)

-- a word was taken, or no words with it have a meaning
abbrev pub Takes : Bool → Progress → List ℕ → Progress → Type 0
Takes true old w new = (ws : List (List ℕ)) → meant old (w ∷ ws) ≡ meant new ws
Takes false old w new = (ws : List (List ℕ)) → meant old (w ∷ ws) ≡ None

-- the same of a value of an option, and of a word that is left
abbrev pub TakesValue : Bool → Progress → Setting × List ℕ → Progress → Type 0
TakesValue true old v new = (new.expects ≡ old.expects) × ((a : Option Apart) → meaning_with (settings_of old) old.mode (with_value v a) ≡ meaning_with (settings_of new) new.mode a)
TakesValue false old v new = (a : Option Apart) → meaning_with (settings_of old) old.mode (with_value v a) ≡ None

abbrev pub TakesOther : Bool → Progress → List ℕ → Progress → Type 0
TakesOther true old w new = (new.expects ≡ old.expects) × ((a : Option Apart) → meaning_with (settings_of old) old.mode (with_other w a) ≡ meaning_with (settings_of new) new.mode a)
TakesOther false old w new = (a : Option Apart) → meaning_with (settings_of old) old.mode (with_other w a) ≡ None
