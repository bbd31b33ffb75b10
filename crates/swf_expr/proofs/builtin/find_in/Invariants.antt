use Rattle.std.proofs.Common.{◌≡◌, drop}
use Rattle.swf_expr.specs.Builtin.{first_of}
use Rattle.swf_expr.proofs.builtin.find_in.Given as goal

abbrev pub invariant-loop-builtin : goal.invariant-loop-builtin
invariant-loop-builtin l = first_of (drop l.builtin-index l.all) l.name l.arguments ≡ first_of l.all l.name l.arguments
