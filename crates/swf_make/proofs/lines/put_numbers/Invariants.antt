use Rattle.std.proofs.Common.{◌≡◌, ◌++◌}
use Rattle.swf_make.specs.Generated.{numbers}
use Rattle.swf_make.proofs.lines.put_numbers.Given as goal

abbrev pub invariant-loop-place : goal.invariant-loop-place
invariant-loop-place l = l.out.items ≡ l.initial.out.items ++ numbers l.first l.place
