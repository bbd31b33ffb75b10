use Rattle.std.proofs.Common.{◌≤◌, ◌-◌}
use Rattle.swf_strands.specs.Strands.{most_beside}
use Rattle.swf_strands.proofs.AlarmLemmas.{IsRung}
use Rattle.swf_strands.proofs.AskLemmas.{below_held}
use Rattle.swf_strands.proofs.alarm.+alarm_in.Given as goal

-- how many strands stand below
abbrev pub decreases-alarm_in : goal.decreases-alarm_in
decreases-alarm_in l = below_held l.forest.now l.strand

-- it is the least of the strand and of the branches before this one
abbrev pub invariant-loop-child : goal.invariant-loop-child
invariant-loop-child l = (l.number ≤ most_beside) × IsRung l.forest l.strand l.number l.alarm

abbrev pub decreases-loop-child : goal.decreases-loop-child
decreases-loop-child l = most_beside - l.number
