use Rattle.std.proofs.Common.{◌≡◌, ◌++◌, drop}
use Rattle.swf_value.specs.Node.{members_of}
use Rattle.swf_reader.specs.Parts.{correlations_in}
use Rattle.swf_reader.proofs.event.correlations_in.Given as goal

-- what was made so far, and what is left to make
abbrev pub invariant-loop-member : goal.invariant-loop-member
invariant-loop-member l = correlations_in (members_of l.members) ≡ l.correlations.items ++ correlations_in (members_of (drop l.member-index l.members))
