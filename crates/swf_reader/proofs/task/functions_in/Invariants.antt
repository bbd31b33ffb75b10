use Rattle.std.proofs.Common.{◌≡◌, drop}
use Rattle.swf_value.specs.Node.{members_of}
use Rattle.swf_reader.specs.Reads.{functions_in}
use Rattle.swf_reader.proofs.TaskLemmas.{before_tasks}
use Rattle.swf_reader.proofs.task.functions_in.Given as goal

-- the functions so far and those of what is left are all
abbrev pub invariant-loop-member : goal.invariant-loop-member
invariant-loop-member l = functions_in l.place (members_of l.members) ≡ before_tasks l.functions.items (functions_in l.place (members_of (drop l.member-index l.members)))
