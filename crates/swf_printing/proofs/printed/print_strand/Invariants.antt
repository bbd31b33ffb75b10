use Rattle.std.proofs.Common.{◌≡◌, map, take}
use Rattle.std.specs.Prelude.{pos}
use Rattle.swf_value.specs.Value.{int}
use Rattle.swf_printing.proofs.printed.print_strand.Given as goal

-- the numbers so far
abbrev pub invariant-loop-number : goal.invariant-loop-number
invariant-loop-number l = l.items.items ≡ map (λ n. int (pos n)) (take l.number-index l.number-items)
