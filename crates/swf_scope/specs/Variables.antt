-- The variables of an expression (jq 1.7 manual, «Variable / Symbolic Binding Operator»).
use Rattle.std.specs.Prelude.{◌&&◌, ◌∷◌, ℕ, List, Bool, true}
use Rattle.std.specs.List.{list_any}
use Rattle.swf_text.specs.Same.{same}
use Rattle.swf_expr.specs.Expr.{Tree, here, lit, var, index, iterate, maybe, pipe, both, alt, or, and, binary, neg, empty_list, list_of, object_of, if_then, if_else, bind, apply, Trees, no_trees, tree, Pairs, no_pairs, pair}

abbrev pub is_among : List (List ℕ) → List ℕ → Bool
is_among names n = list_any (same n) names

-- each variable is one of these names, or of an `as $name |` around it in the expression
abbrev mutual
  pub all_known : List (List ℕ) → Tree → Bool
  all_known r here = true
  all_known r (lit v) = true
  all_known r (var x) = is_among r x
  all_known r (index a b) = all_known r a && all_known r b
  all_known r (iterate a) = all_known r a
  all_known r (maybe a) = all_known r a
  all_known r (pipe a b) = all_known r a && all_known r b
  all_known r (both a b) = all_known r a && all_known r b
  all_known r (alt a b) = all_known r a && all_known r b
  all_known r (or a b) = all_known r a && all_known r b
  all_known r (and a b) = all_known r a && all_known r b
  all_known r (binary o a b) = all_known r a && all_known r b
  all_known r (neg a) = all_known r a
  all_known r empty_list = true
  all_known r (list_of a) = all_known r a
  all_known r (object_of ps) = pairs_known r ps
  all_known r (if_then c a) = all_known r c && all_known r a
  all_known r (if_else c a b) = all_known r c && all_known r a && all_known r b
  all_known r (bind a x b) = all_known r a && all_known (x ∷ r) b
  all_known r (apply f es) = are_known r es

  pub are_known : List (List ℕ) → Trees → Bool
  are_known r no_trees = true
  are_known r (tree e es) = all_known r e && are_known r es

  pub pairs_known : List (List ℕ) → Pairs → Bool
  pairs_known r no_pairs = true
  pairs_known r (pair k v ps) = all_known r k && all_known r v && pairs_known r ps
