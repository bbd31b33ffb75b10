-- Each expression inside a node weighs less than the node.
use Rattle.std.specs.Prelude.{◌+◌, ◌≤◌, max, List, [], ◌∷◌, Option, Some, None}
use Rattle.std.proofs.Common.{arith}
use denote.Param.Weighed.{most}
use Rattle.swf_expr.specs.Expr.{Tree}
use Rattle.swf_expr.specs.declared.expr.ExprNode.{ExprNode}
use Rattle.swf_expr.specs.declared.expr.ExprNode.TheVariants as nodes
use Rattle.swf_expr.specs.declared.expr.ExprMember.{ExprMember}
use Rattle.swf_expr.specs.declared.constant.ConstantObject.TheDeep.{deep-ExprNode, deep-ExprMember}
use Rattle.swf_expr.specs.ExprNode.{node_tree, trees_of, pairs_of, value_or_here, weight, weight_trees, weight_pairs, weight_object}

-- no argument is heavier than all of them together
most_trees : (es : List Tree) → most (λ e. weight e + 1) es ≤ weight_trees (trees_of es) + 1
most_trees [] = omega arith
most_trees (e ∷ es) = omega (arith, most_trees es)

-- no part of a member is heavier than its key and its value together
member_falls : (k : Tree) (v : Option Tree) → deep-ExprMember (record { key = k; value = v }) ≤ weight k + weight (value_or_here k v) + 1
member_falls k None = omega arith
member_falls k (Some v) = omega arith

-- no member is heavier than all of them together
most_members : (ms : List ExprMember) → most deep-ExprMember ms ≤ weight_pairs (pairs_of ms) + 1
most_members [] = omega arith
most_members (m ∷ ms) = omega (arith, most_members ms, member_falls m.key m.value)

pub falls_object : (ms : List ExprMember) → max (most deep-ExprMember ms) 0 ≤ weight_object (pairs_of ms)
falls_object ms = omega (arith, most_members ms)

pub falls : (n : ExprNode) → max (deep-ExprNode n) 0 ≤ weight (node_tree n)
falls nodes.Here = omega arith
falls (nodes.Lit v) = omega arith
falls (nodes.Var x) = omega arith
falls (nodes.Index a b) = omega arith
falls (nodes.Iterate a) = omega arith
falls (nodes.Maybe a) = omega arith
falls (nodes.Pipe a b) = omega arith
falls (nodes.Both a b) = omega arith
falls (nodes.Alt a b) = omega arith
falls (nodes.Or a b) = omega arith
falls (nodes.And a b) = omega arith
falls (nodes.Binary o a b) = omega arith
falls (nodes.Neg a) = omega arith
falls (nodes.List None) = omega arith
falls (nodes.List (Some a)) = omega arith
falls (nodes.Object v) = omega (arith, most_members v.items)
falls (nodes.Constant c) = omega arith
falls (nodes.If c a None) = omega arith
falls (nodes.If c a (Some b)) = omega arith
falls (nodes.Bind a x b) = omega arith
falls (nodes.Apply f v) = omega (arith, most_trees v.items)
