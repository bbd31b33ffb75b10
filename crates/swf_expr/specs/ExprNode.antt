-- The tree that one level of an `Expr` stands for.
use Rattle.std.specs.Prelude.{◌+◌, ℕ, List, [], ◌∷◌, Option, Some, None}
use Rattle.swf_expr.specs.Expr.{Tree, here, lit, var, index, iterate, maybe, pipe, both, alt, or, and, binary, neg, empty_list, list_of, object_of, if_then, if_else, bind, apply, Trees, no_trees, tree, Pairs, no_pairs, pair}
use Rattle.swf_expr.specs.declared.expr.ExprNode.{ExprNode}
use Rattle.swf_expr.specs.declared.expr.ExprNode.TheVariants as nodes
use Rattle.swf_expr.specs.declared.expr.ExprMember.{ExprMember}

abbrev pub trees_of : List Tree → Trees
trees_of [] = no_trees
trees_of (e ∷ es) = tree e (trees_of es)

-- a member's value, which is `.` indexed by the key where it has none of its own
abbrev pub value_or_here : Tree → Option Tree → Tree
value_or_here k None = index here k
value_or_here k (Some v) = v

abbrev pub pairs_of : List ExprMember → Pairs
pairs_of [] = no_pairs
pairs_of (m ∷ ms) = pair m.key (value_or_here m.key m.value) (pairs_of ms)

abbrev pub node_tree : ExprNode → Tree
node_tree nodes.Here = here
node_tree (nodes.Lit v) = lit v
node_tree (nodes.Var x) = var x
node_tree (nodes.Index a b) = index a b
node_tree (nodes.Iterate a) = iterate a
node_tree (nodes.Maybe a) = maybe a
node_tree (nodes.Pipe a b) = pipe a b
node_tree (nodes.Both a b) = both a b
node_tree (nodes.Alt a b) = alt a b
node_tree (nodes.Or a b) = or a b
node_tree (nodes.And a b) = and a b
node_tree (nodes.Binary o a b) = binary o a b
node_tree (nodes.Neg a) = neg a
node_tree (nodes.List None) = empty_list
node_tree (nodes.List (Some a)) = list_of a
node_tree (nodes.Object v) = object_of (pairs_of v.items)
node_tree (nodes.Constant c) = object_of c
node_tree (nodes.If c a None) = if_then c a
node_tree (nodes.If c a (Some b)) = if_else c a b
node_tree (nodes.Bind a x b) = bind a x b
node_tree (nodes.Apply f v) = apply f (trees_of v.items)

-- a number that is greater than that of each tree inside
abbrev mutual
  pub weight : Tree → ℕ
  weight here = 1
  weight (lit v) = 1
  weight (var x) = 1
  weight (index a b) = 2 + weight a + weight b
  weight (iterate a) = 2 + weight a
  weight (maybe a) = 2 + weight a
  weight (pipe a b) = 2 + weight a + weight b
  weight (both a b) = 2 + weight a + weight b
  weight (alt a b) = 2 + weight a + weight b
  weight (or a b) = 2 + weight a + weight b
  weight (and a b) = 2 + weight a + weight b
  weight (binary o a b) = 2 + weight a + weight b
  weight (neg a) = 2 + weight a
  weight empty_list = 1
  weight (list_of a) = 2 + weight a
  weight (object_of ps) = 4 + weight_pairs ps
  weight (if_then c a) = 2 + weight c + weight a
  weight (if_else c a b) = 2 + weight c + weight a + weight b
  weight (bind a x b) = 2 + weight a + weight b
  weight (apply f es) = 4 + weight_trees es

  pub weight_trees : Trees → ℕ
  weight_trees no_trees = 0
  weight_trees (tree e es) = weight e + weight_trees es

  pub weight_pairs : Pairs → ℕ
  weight_pairs no_pairs = 0
  weight_pairs (pair k v ps) = weight k + weight v + weight_pairs ps

-- the same of the members of an object
abbrev pub weight_object : Pairs → ℕ
weight_object ps = 2 + weight_pairs ps
