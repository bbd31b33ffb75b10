use Rattle.std.proofs.Common.{◌≡◌, ◌++◌, drop}
use Rattle.swf_value.specs.Node.{members_of}
use Rattle.swf_reader.specs.Reads.{retries_named}
use Rattle.swf_reader.proofs.error.retries_named.Given as goal

-- what was made so far, and what is left to make
abbrev pub invariant-loop-member : goal.invariant-loop-member
invariant-loop-member l = retries_named (members_of l.members) ≡ l.retries.items ++ retries_named (members_of (drop l.member-index l.members))
