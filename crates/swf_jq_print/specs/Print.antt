-- The text of an expression: its characters, with parentheses round each operand that is no term.
use Rattle.std.specs.Prelude.{ℕ, List, [], ◌∷◌, ◌++◌, Bool, true, false, codes, flat_map, if◌then◌else◌}
use Rattle.std.specs.Fmt.{signed_decimal}
use Rattle.swf_expr.specs.Builtin.{builtin_name}
use Rattle.swf_expr.specs.Expr.{Tree, Trees, no_trees, tree, Pairs, no_pairs, pair, here, lit, var, index, iterate, maybe, pipe, both, alt, or, and, binary, neg, empty_list, list_of, object_of, if_then, if_else, bind, apply}
use Rattle.swf_value.specs.Value.{Value, null, boolean, int, text, list, object}
use Rattle.swf_value.specs.Written.{escaped_byte}
use Rattle.swf_expr.specs.declared.op.Op.{Op}
use Rattle.swf_expr.specs.declared.op.Op.TheVariants as ops

-- a text between its quotation marks, as characters
abbrev pub quoted_text : List ℕ → List ℕ
quoted_text t = 34 ∷ (flat_map escaped_byte t ++ 34 ∷ [])

-- a literal, which is no list and no object
abbrev pub literal_text : Value → List ℕ
literal_text null = codes "null"
literal_text (boolean b) = if b then codes "true" else codes "false"
literal_text (int z) = signed_decimal z
literal_text (text t) = quoted_text t
literal_text (list ds) = []
literal_text (object ms) = []

-- how an operator is written
abbrev pub op_text : Op → List ℕ
op_text ops.Equal = codes "=="
op_text ops.NotEqual = codes "!="
op_text ops.Less = codes "<"
op_text ops.AtMost = codes "<="
op_text ops.Greater = codes ">"
op_text ops.AtLeast = codes ">="
op_text ops.Add = codes "+"
op_text ops.Subtract = codes "-"
op_text ops.Multiply = codes "*"
op_text ops.Divide = codes "/"
op_text ops.Modulo = codes "%"

-- the name of a variable after its `$`
abbrev pub var_text : List ℕ → List ℕ
var_text x = 36 ∷ x

-- whether an expression's text is a term
abbrev pub is_term : Tree → Bool
is_term here = true
is_term (lit v) = true
is_term (var x) = true
is_term empty_list = true
is_term (list_of a) = true
is_term (object_of ms) = true
is_term (if_then c a) = true
is_term (if_else c a b) = true
is_term (apply f es) = true
is_term e = false

-- what is no term stands in parentheses
abbrev pub enclosed : Bool → List ℕ → List ℕ
enclosed b cs = if b then cs else 40 ∷ (cs ++ 41 ∷ [])

-- what stands between two of a row, where something stands before
abbrev pub between : ℕ → Bool → List ℕ
between c later = if later then c ∷ [] else []

abbrev mutual
  pub print_of : Tree → List ℕ
  print_of here = 46 ∷ []
  print_of (lit v) = literal_text v
  print_of (var x) = var_text x
  print_of (index a b) = enclosed (is_term a) (print_of a) ++ 91 ∷ (print_of b ++ 93 ∷ [])
  print_of (iterate a) = enclosed (is_term a) (print_of a) ++ codes "[]"
  print_of (maybe a) = enclosed (is_term a) (print_of a) ++ codes "?"
  print_of (pipe a b) = enclosed (is_term a) (print_of a) ++ (codes "|" ++ enclosed (is_term b) (print_of b))
  print_of (both a b) = enclosed (is_term a) (print_of a) ++ (codes "," ++ enclosed (is_term b) (print_of b))
  print_of (alt a b) = enclosed (is_term a) (print_of a) ++ (codes "//" ++ enclosed (is_term b) (print_of b))
  print_of (or a b) = enclosed (is_term a) (print_of a) ++ (codes " or " ++ enclosed (is_term b) (print_of b))
  print_of (and a b) = enclosed (is_term a) (print_of a) ++ (codes " and " ++ enclosed (is_term b) (print_of b))
  print_of (binary o a b) = enclosed (is_term a) (print_of a) ++ (op_text o ++ enclosed (is_term b) (print_of b))
  print_of (neg a) = 45 ∷ enclosed (is_term a) (print_of a)
  print_of empty_list = codes "[]"
  print_of (list_of a) = 91 ∷ (print_of a ++ 93 ∷ [])
  print_of (object_of ms) = 123 ∷ (print_members false ms ++ 125 ∷ [])
  print_of (if_then c a) = codes "if " ++ (print_of c ++ (codes " then " ++ (print_of a ++ codes " end")))
  print_of (if_else c a b) = codes "if " ++ (print_of c ++ (codes " then " ++ (print_of a ++ (codes " else " ++ (print_of b ++ codes " end")))))
  print_of (bind a x b) = enclosed (is_term a) (print_of a) ++ (codes " as " ++ (var_text x ++ (codes "|" ++ print_of b)))
  print_of (apply f no_trees) = builtin_name f
  print_of (apply f (tree e es)) = builtin_name f ++ 40 ∷ (print_of e ++ (print_arguments true es ++ 41 ∷ []))

  -- arguments, where some stand before or not
  pub print_arguments : Bool → Trees → List ℕ
  print_arguments later no_trees = []
  print_arguments later (tree e es) = between 59 later ++ (print_of e ++ print_arguments true es)

  -- members, where some stand before or not
  pub print_members : Bool → Pairs → List ℕ
  print_members later no_pairs = []
  print_members later (pair k v ms) = between 44 later ++ (40 ∷ (print_of k ++ (codes "):" ++ (enclosed (is_term v) (print_of v) ++ print_members true ms))))

-- one member
abbrev pub member_text : Tree → Tree → List ℕ
member_text k v = 40 ∷ (print_of k ++ (codes "):" ++ enclosed (is_term v) (print_of v)))

-- the arguments of a built-in, if it has any
abbrev pub arguments_text : Trees → List ℕ
arguments_text no_trees = []
arguments_text (tree e es) = 40 ∷ (print_of e ++ (print_arguments true es ++ 41 ∷ []))
