use Rattle.std.proofs.Common.{◌-◌, ◌≤◌}
use Rattle.swf_tasks.proofs.AdvanceLemmas.{IsReached}
use Rattle.swf_tasks.proofs.machine.Machine.advance.Given as goal

-- the steps so far lead here
abbrev pub invariant-loop-steps : goal.invariant-loop-steps
invariant-loop-steps l = (l.steps ≤ l.fuel) × IsReached l.now l.documents.documents l.strand l.steps l.fn.self l.self

abbrev pub decreases-loop-steps : goal.decreases-loop-steps
decreases-loop-steps l = l.fuel - l.steps
