-- What an expression holds in a list weighs less than the expression, so letting go of it ends.
use Rattle.std.specs.Prelude.{◌+◌, ◌*◌, ◌≤◌, List, [], ◌∷◌}
use Rattle.std.proofs.Common.{arith}
use denote.Param.Weighed.{most, w_this}
use Rattle.swf_expr.specs.declared.expr.Expr.{Expr}
use Rattle.swf_expr.specs.declared.expr.ExprMember.{ExprMember}
use Rattle.swf_expr.specs.declared.constant.ConstantObject.TheDeep.{size-Expr, size-ExprMember, deep-ExprMember}
use Rattle.swf_expr.specs.ExprNode.{weight}

-- the heaviest of a list's expressions, each with what letting go of it adds
pub trees_sized : (es : List Expr) → most ((w_this).weight Expr size-Expr) es ≤ 3 * most ((w_this).weight Expr (λ e. weight e + 1)) es
trees_sized [] = omega arith
trees_sized (e ∷ es) = omega (arith, trees_sized es)

-- the heaviest of a list's members, each with what letting go of it adds
pub members_sized : (ms : List ExprMember) → most ((w_this).weight ExprMember size-ExprMember) ms ≤ 3 * most ((w_this).weight ExprMember deep-ExprMember) ms + 1
members_sized [] = omega arith
members_sized (m ∷ ms) = omega (arith, members_sized ms)
