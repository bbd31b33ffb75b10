use Rattle.std.proofs.Common.{rules}
use Rattle.swf_expr.proofs.+expr.Goals as goal
use Rattle.swf_expr.proofs.DropLemmas.{trees_sized, members_sized}

-- the members of an object weigh less than it
pub swf_expr++expr++ExprNode+Destruct::drop-drop-requires-14 : goal.swf_expr++expr++ExprNode+Destruct::drop-drop-requires-14
swf_expr++expr++ExprNode+Destruct::drop-drop-requires-14 t c κs = (((search (members_sized, rules), tt), tt), search rules)

-- the arguments of a built-in weigh less than its call
pub swf_expr++expr++ExprNode+Destruct::drop-drop-requires-18 : goal.swf_expr++expr++ExprNode+Destruct::drop-drop-requires-18
swf_expr++expr++ExprNode+Destruct::drop-drop-requires-18 t c κs = (((search (trees_sized, rules), tt), tt), search rules)
