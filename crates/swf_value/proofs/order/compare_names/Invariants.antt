use Rattle.std.proofs.Common.{◌≡◌, drop}
use Rattle.swf_value.specs.Node.{members_of}
use Rattle.swf_value.specs.Order.{names_cmp}
use Rattle.swf_value.proofs.order.compare_names.Given as goal

abbrev pub invariant-loop-i : goal.invariant-loop-i
invariant-loop-i l = names_cmp (members_of (drop l.i l.a)) (members_of (drop l.i l.b)) ≡ names_cmp (members_of l.a) (members_of l.b)
