-- Lists of expressions and of members that stand for the same.
use Rattle.std.proofs.Common.{◌≡◌, ap, refl, List, [], ◌∷◌, length, suc}
use Rattle.swf_expr.specs.Expr.{Tree}
use Rattle.swf_expr.specs.ExprNode.{trees_of, pairs_of}
use Rattle.swf_expr.specs.declared.expr.ExprMember.{ExprMember}

pub trees_of_one : (a b : List Tree) → trees_of a ≡ trees_of b → a ≡ b
trees_of_one [] [] p = refl
trees_of_one (x ∷ xs) (y ∷ ys) p = let r : xs ≡ ys = trees_of_one xs ys cc in cc
trees_of_one a b p = cc

pub pairs_long : (a b : List ExprMember) → pairs_of a ≡ pairs_of b → length a ≡ length b
pairs_long [] [] p = refl
pairs_long (x ∷ xs) (y ∷ ys) p = ap suc (pairs_long xs ys cc)
pairs_long a b p = cc
