-- How large the places of used keys are.
use Rattle.std.specs.Prelude.{ℕ, ◌≤◌, ◌^◌}
use Rattle.swf_meaning.specs.declared.key.Key.{Key}
use Rattle.swf_world.specs.declared.refusal.Refusal.{Refusal}
use Rattle.swf_world.specs.declared.refusal.Refusal.TheVariants.{Refused, Duplicate, Stale, UnknownDocument, UnknownInstance, Full, Past, NotEnabled}

-- how many labels a world takes
abbrev pub most_labels : ℕ
most_labels = 2 ^ 40

-- a key was used at a place that a world has
abbrev pub IsEarly : Key × ℕ → Type 0
IsEarly p = p.1 ≤ most_labels

-- the place of a refusal is one that a world has
abbrev pub IsEarlyRefusal : Refusal → Type 0
IsEarlyRefusal (Refused faults) = Unit {0}
IsEarlyRefusal (Duplicate place) = place ≤ most_labels
IsEarlyRefusal Stale = Unit {0}
IsEarlyRefusal UnknownDocument = Unit {0}
IsEarlyRefusal UnknownInstance = Unit {0}
IsEarlyRefusal Full = Unit {0}
IsEarlyRefusal (Past now) = Unit {0}
IsEarlyRefusal NotEnabled = Unit {0}
