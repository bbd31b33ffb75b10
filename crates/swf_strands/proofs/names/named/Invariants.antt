use Rattle.std.proofs.Common.{◌≡◌, take}
use Rattle.swf_strands.proofs.names.named.Given as goal

-- the numbers up to here
abbrev pub invariant-loop-number : goal.invariant-loop-number
invariant-loop-number l = l.branches.items ≡ take l.number-index l.path
