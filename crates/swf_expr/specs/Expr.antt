-- What an expression is: its tree and its literals (jq 1.7 manual, from «Basic filters» on).
use Rattle.std.specs.Prelude.{◌≡◌, ℕ, suc, pos, int_le, List, Bool, true, false}
use Rattle.swf_expr.specs.Builtin.{arity}
use Rattle.swf_value.specs.Value.{Value, null, boolean, int, text, list, object}
use Rattle.swf_expr.specs.declared.builtin.Builtin.{Builtin}
use Rattle.swf_expr.specs.declared.op.Op.{Op}

mutual
  pub data Tree : Type 0 where
    here : Tree
    lit : Value → Tree
    var : List ℕ → Tree
    index : Tree → Tree → Tree
    iterate : Tree → Tree
    maybe : Tree → Tree
    pipe : Tree → Tree → Tree
    both : Tree → Tree → Tree
    alt : Tree → Tree → Tree
    or : Tree → Tree → Tree
    and : Tree → Tree → Tree
    binary : Op → Tree → Tree → Tree
    neg : Tree → Tree
    empty_list : Tree
    list_of : Tree → Tree
    object_of : Pairs → Tree
    if_then : Tree → Tree → Tree
    if_else : Tree → Tree → Tree → Tree
    bind : Tree → List ℕ → Tree → Tree
    apply : Builtin → Trees → Tree

  pub data Trees : Type 0 where
    no_trees : Trees
    tree : Tree → Trees → Trees

  pub data Pairs : Type 0 where
    no_pairs : Pairs
    pair : Tree → Tree → Pairs → Pairs

-- null, a Boolean, a number of at least 0 or a text
abbrev pub is_literal : Value → Bool
is_literal null = true
is_literal (boolean b) = true
is_literal (int z) = int_le (pos 0) z
is_literal (text t) = true
is_literal (list ds) = false
is_literal (object ms) = false

abbrev pub count : Trees → ℕ
count no_trees = 0
count (tree e es) = suc (count es)

-- what each level of an expression keeps
abbrev pub IsTreeLevel : Tree → Type 0
IsTreeLevel (lit v) = is_literal v ≡ true
IsTreeLevel (apply f es) = count es ≡ arity f
IsTreeLevel e = Unit {0}
