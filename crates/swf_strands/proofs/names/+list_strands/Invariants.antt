use Rattle.std.proofs.Common.{◌≡◌, ◌≤◌, ◌-◌}
use Rattle.swf_strands.specs.Strands.{most_beside}
use Rattle.swf_strands.proofs.AskLemmas.{below_held}
use Rattle.swf_strands.proofs.NameLemmas.{IsListed}
use Rattle.swf_strands.proofs.names.+list_strands.Given as goal

-- how many strands stand below
abbrev pub decreases-list_strands : goal.decreases-list_strands
decreases-list_strands l = below_held l.forest.now l.strand

-- the names before those of this branch are in the list
abbrev pub invariant-loop-child : goal.invariant-loop-child
invariant-loop-child l =
    (l.number ≤ most_beside) × ((l.path.items ≡ l.fn.path.items) × IsListed l.forest l.strand l.fn.path.items l.fn.list.items l.number l.list.items)

abbrev pub decreases-loop-child : goal.decreases-loop-child
decreases-loop-child l = most_beside - l.number
