-- How many strands stand below, and which branches can take no step.
use Rattle.std.proofs.Common.{◌≡◌, ◌≤◌, ◌+◌, ◌*◌, ◌-◌}
use Rattle.swf_strands.specs.Strands.{most_beside}
use Rattle.swf_strands.proofs.AskLemmas.{below_held}
use Rattle.swf_strands.proofs.OrderLemmas.{IsStuckTo}
use Rattle.swf_strands.proofs.order.+lead.Given as goal

abbrev pub decreases-lead_from : goal.decreases-lead_from
decreases-lead_from l = 2 * below_held l.forest.now l.strand

-- it asks its own strand as well
abbrev pub decreases-lead_in : goal.decreases-lead_in
decreases-lead_in l = 2 * below_held l.forest.now l.strand + 1

-- none of the branches before this one can take a step
abbrev pub invariant-lead_from-loop-child : goal.invariant-lead_from-loop-child
invariant-lead_from-loop-child l = (l.path.items ≡ l.fn.path.items) × IsStuckTo l.now l.forest l.strand l.first l.number

abbrev pub decreases-lead_from-loop-child : goal.decreases-lead_from-loop-child
decreases-lead_from-loop-child l = most_beside - l.number
