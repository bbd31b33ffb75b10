use Rattle.std.proofs.Common.{◌≡◌, drop}
use Rattle.swf_value.specs.Grow.{IsObject}
use Rattle.swf_expr.specs.ExprNode.{pairs_of}
use Rattle.swf_expr.specs.Constant.{constant_from, constant_of}
use Rattle.swf_expr.proofs.constant.object_of_literals.Given as goal

abbrev pub invariant-loop-member : goal.invariant-loop-member
invariant-loop-member l = IsObject l.object × (constant_from (pairs_of (drop l.member-index l.members)) l.object ≡ constant_of (pairs_of l.members))
