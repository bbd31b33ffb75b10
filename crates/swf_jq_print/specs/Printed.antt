-- How deep the brackets of an expression's text nest, and what every expression keeps.
use Rattle.std.specs.Prelude.{◌≡◌, ℕ, suc, max, Bool, true, if◌then◌else◌}
use Rattle.swf_expr.specs.Builtin.{arity}
use Rattle.swf_expr.specs.Expr.{Tree, Trees, no_trees, tree, count, Pairs, no_pairs, pair, here, lit, var, index, iterate, maybe, pipe, both, alt, or, and, binary, neg, empty_list, list_of, object_of, if_then, if_else, bind, apply, is_literal}
use Rattle.swf_expr.specs.Name.{is_name}
use Rattle.swf_value.specs.Value.{IsValue}
use Rattle.swf_jq_print.specs.Print.{is_term}

-- one bracket more, where there are parentheses
abbrev pub enclosed_nesting : Bool → ℕ → ℕ
enclosed_nesting b n = if b then n else suc n

-- how deep the brackets of an expression's text nest
abbrev mutual
  pub nesting : Tree → ℕ
  nesting here = 0
  nesting (lit v) = 0
  nesting (var x) = 0
  nesting (index a b) = max (enclosed_nesting (is_term a) (nesting a)) (suc (nesting b))
  nesting (iterate a) = max (enclosed_nesting (is_term a) (nesting a)) 1
  nesting (maybe a) = enclosed_nesting (is_term a) (nesting a)
  nesting (pipe a b) = max (enclosed_nesting (is_term a) (nesting a)) (enclosed_nesting (is_term b) (nesting b))
  nesting (both a b) = max (enclosed_nesting (is_term a) (nesting a)) (enclosed_nesting (is_term b) (nesting b))
  nesting (alt a b) = max (enclosed_nesting (is_term a) (nesting a)) (enclosed_nesting (is_term b) (nesting b))
  nesting (or a b) = max (enclosed_nesting (is_term a) (nesting a)) (enclosed_nesting (is_term b) (nesting b))
  nesting (and a b) = max (enclosed_nesting (is_term a) (nesting a)) (enclosed_nesting (is_term b) (nesting b))
  nesting (binary o a b) = max (enclosed_nesting (is_term a) (nesting a)) (enclosed_nesting (is_term b) (nesting b))
  nesting (neg a) = enclosed_nesting (is_term a) (nesting a)
  nesting empty_list = 1
  nesting (list_of a) = suc (nesting a)
  nesting (object_of ms) = suc (nesting_members ms)
  nesting (if_then c a) = max (nesting c) (nesting a)
  nesting (if_else c a b) = max (nesting c) (max (nesting a) (nesting b))
  nesting (bind a x b) = max (enclosed_nesting (is_term a) (nesting a)) (nesting b)
  nesting (apply f no_trees) = 0
  nesting (apply f (tree e es)) = suc (max (nesting e) (nesting_arguments es))

  pub nesting_arguments : Trees → ℕ
  nesting_arguments no_trees = 0
  nesting_arguments (tree e es) = max (nesting e) (nesting_arguments es)

  pub nesting_members : Pairs → ℕ
  nesting_members no_pairs = 0
  nesting_members (pair k v ms) = max (suc (nesting k)) (max (enclosed_nesting (is_term v) (nesting v)) (nesting_members ms))

-- literals, names and numbers of arguments as every expression has them, at every level
abbrev mutual
  pub IsExpression : Tree → Type 0
  IsExpression here = Unit {0}
  IsExpression (lit v) = (is_literal v ≡ true) × IsValue v
  IsExpression (var x) = is_name x ≡ true
  IsExpression (index a b) = IsExpression a × IsExpression b
  IsExpression (iterate a) = IsExpression a
  IsExpression (maybe a) = IsExpression a
  IsExpression (pipe a b) = IsExpression a × IsExpression b
  IsExpression (both a b) = IsExpression a × IsExpression b
  IsExpression (alt a b) = IsExpression a × IsExpression b
  IsExpression (or a b) = IsExpression a × IsExpression b
  IsExpression (and a b) = IsExpression a × IsExpression b
  IsExpression (binary o a b) = IsExpression a × IsExpression b
  IsExpression (neg a) = IsExpression a
  IsExpression empty_list = Unit {0}
  IsExpression (list_of a) = IsExpression a
  IsExpression (object_of ms) = AreMembers ms
  IsExpression (if_then c a) = IsExpression c × IsExpression a
  IsExpression (if_else c a b) = IsExpression c × IsExpression a × IsExpression b
  IsExpression (bind a x b) = IsExpression a × (is_name x ≡ true) × IsExpression b
  IsExpression (apply f es) = (count es ≡ arity f) × AreArguments es

  pub AreArguments : Trees → Type 0
  AreArguments no_trees = Unit {0}
  AreArguments (tree e es) = IsExpression e × AreArguments es

  pub AreMembers : Pairs → Type 0
  AreMembers no_pairs = Unit {0}
  AreMembers (pair k v ms) = IsExpression k × IsExpression v × AreMembers ms
