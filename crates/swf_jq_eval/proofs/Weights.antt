-- What expressions weigh, and what is evaluated for an output.
use Rattle.std.proofs.Common.{ℕ, ◌≤◌, ◌+◌, arith}
use Rattle.std.specs.Option.{option_map_or}
use Rattle.swf_jq_eval.specs.declared.inner.Inner.{Inner}
use Rattle.swf_jq_eval.specs.declared.inner.Inner.TheVariants as inners
use Rattle.swf_expr.specs.Expr.{Tree, here, lit, var, index, iterate, maybe, pipe, both, alt, or, and, binary, neg, empty_list, list_of, object_of, if_then, if_else, bind, apply}
use Rattle.swf_expr.specs.ExprNode.{weight}

-- every expression weighs something
pub positive : (e : Tree) → 1 ≤ weight e
positive here = omega arith
positive (lit v) = omega arith
positive (var x) = omega arith
positive (index a b) = omega arith
positive (iterate a) = omega arith
positive (maybe a) = omega arith
positive (pipe a b) = omega arith
positive (both a b) = omega arith
positive (alt a b) = omega arith
positive (or a b) = omega arith
positive (and a b) = omega arith
positive (binary o a b) = omega arith
positive (neg a) = omega arith
positive empty_list = omega arith
positive (list_of a) = omega arith
positive (object_of ps) = omega arith
positive (if_then c a) = omega arith
positive (if_else c a b) = omega arith
positive (bind a x b) = omega arith
positive (apply f es) = omega arith

-- what the expressions weigh that are evaluated for an output
abbrev pub weight_inner : Inner → ℕ
weight_inner (inners.Index e) = weight e.now
weight_inner (inners.Pipe e) = weight e.now
weight_inner (inners.Decide b e) = weight e.now
weight_inner (inners.Operate o e) = weight e.now
weight_inner (inners.Choose e f) = weight e.now + option_map_or (λ e. weight e) f.now 0
weight_inner (inners.Bind x e) = weight e.now
weight_inner (inners.RangeTo e) = weight e.now
