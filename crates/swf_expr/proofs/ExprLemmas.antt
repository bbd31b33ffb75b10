-- Expressions and their arguments.
use Rattle.std.proofs.Common.{◌≡◌, List, [], ◌∷◌, length, refl, ap, suc}
use Rattle.swf_expr.specs.Expr.{Tree, count}
use Rattle.swf_expr.specs.ExprNode.{trees_of}

-- as many trees as there are arguments
pub count-trees_of : (es : List Tree) → count (trees_of es) ≡ length es
count-trees_of [] = refl
count-trees_of (e ∷ es) = ap suc (count-trees_of es)
