use Rattle.std.proofs.Common.{◌∙◌, sym, arith}
use Rattle.swf_value.proofs.Rests.{names_short}
use Rattle.swf_value.proofs.order.compare_names.Goals as goal

pub returns-then-a-b : goal.returns-then-a-b
returns-then-a-b c = sym (names_short c.args.a.now c.args.b.now c.loop-i.i (omega arith) (omega arith)) ∙ c.loop-i.invariant
