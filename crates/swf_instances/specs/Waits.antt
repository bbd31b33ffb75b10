-- Until when instances wait.
use Rattle.std.specs.Prelude.{ℕ, List, Option, map}
use Rattle.swf_meaning.specs.World.{Instance}
use Rattle.swf_strands.specs.Alarm.{alarm_of}

-- of each instance the least moment that a strand of it waits for, or none
abbrev pub alarms_of : List Instance → List (Option ℕ)
alarms_of is = map (λ i. alarm_of i.node) is
