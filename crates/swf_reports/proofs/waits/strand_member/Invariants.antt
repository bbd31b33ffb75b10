use Rattle.std.proofs.Common.{◌≡◌, ◌++◌, drop, map, pos}
use Rattle.swf_value.specs.Value.{int}
use Rattle.swf_reports.proofs.waits.strand_member.Given as goal

-- with the numbers that are left it is all
abbrev pub invariant-loop-number : goal.invariant-loop-number
invariant-loop-number l = l.items.items ++ map (λ b. int (pos b)) (drop l.number-index l.number-items) ≡ map (λ b. int (pos b)) l.number-items
