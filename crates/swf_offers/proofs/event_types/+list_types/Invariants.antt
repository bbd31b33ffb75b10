use Rattle.std.proofs.Common.{◌≤◌, ◌-◌}
use Rattle.swf_strands.specs.Strands.{most_beside}
use Rattle.swf_strands.proofs.AskLemmas.{below_held}
use Rattle.swf_offers.proofs.EventTypeLemmas.{AreTyped}
use Rattle.swf_offers.proofs.event_types.+list_types.Given as goal

-- how many strands stand below
abbrev pub decreases-list_types : goal.decreases-list_types
decreases-list_types l = below_held l.forest.now l.strand

-- those of the strand and of the branches before this one are in the list
abbrev pub invariant-loop-child : goal.invariant-loop-child
invariant-loop-child l = (l.number ≤ most_beside) × AreTyped l.forest l.strand l.fn.types.items l.number l.types.items

abbrev pub decreases-loop-child : goal.decreases-loop-child
decreases-loop-child l = most_beside - l.number
