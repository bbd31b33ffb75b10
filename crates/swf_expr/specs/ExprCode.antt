-- A code for expressions, by which a ghost name tells them apart.
use Rattle.std.specs.Prelude.{◌≡◌, ◌==◌, ℕ, List, refl, if◌then◌else◌}
use Rattle.std.specs.Coded.{Coded, coded_ℕ, coded_list, code_by}
use Rattle.std.proofs.lemmas.Bool.{false≢true, eq-eqb}
use base.Stored.{Gv, gnil, gnum, gcons}
use mathlib.Core.Path.{ap, sym, subst}
use Rattle.swf_expr.specs.Expr.{Tree, here, lit, var, index, iterate, maybe, pipe, both, alt, or, and, binary, neg, empty_list, list_of, object_of, if_then, if_else, bind, apply, Trees, no_trees, tree, Pairs, no_pairs, pair}
use Rattle.swf_value.specs.ValueCode.{value_code}
use Rattle.swf_expr.specs.declared.builtin.Builtin.{Builtin}
use Rattle.swf_expr.specs.declared.builtin.Builtin.TheVariants as builtins
use Rattle.swf_expr.specs.declared.op.Op.{Op}
use Rattle.swf_expr.specs.declared.op.Op.TheVariants as ops

abbrev op_number : Op → ℕ
op_number ops.Equal = 0
op_number ops.NotEqual = 1
op_number ops.Less = 2
op_number ops.AtMost = 3
op_number ops.Greater = 4
op_number ops.AtLeast = 5
op_number ops.Add = 6
op_number ops.Subtract = 7
op_number ops.Multiply = 8
op_number ops.Divide = 9
op_number ops.Modulo = 10

abbrev op_at : ℕ → Op
op_at n =
    if n == 0 then ops.Equal
    else if n == 1 then ops.NotEqual
    else if n == 2 then ops.Less
    else if n == 3 then ops.AtMost
    else if n == 4 then ops.Greater
    else if n == 5 then ops.AtLeast
    else if n == 6 then ops.Add
    else if n == 7 then ops.Subtract
    else if n == 8 then ops.Multiply
    else if n == 9 then ops.Divide
    else ops.Modulo

pub op_back : (x : Op) → op_at (op_number x) ≡ x
op_back ops.Equal = refl
op_back ops.NotEqual = refl
op_back ops.Less = refl
op_back ops.AtMost = refl
op_back ops.Greater = refl
op_back ops.AtLeast = refl
op_back ops.Add = refl
op_back ops.Subtract = refl
op_back ops.Multiply = refl
op_back ops.Divide = refl
op_back ops.Modulo = refl

abbrev op_code : Coded Op
op_code = code_by ℕ coded_ℕ op_number op_at op_back

abbrev builtin_number : Builtin → ℕ
builtin_number builtins.Length = 0
builtin_number builtins.Keys = 1
builtin_number builtins.Has = 2
builtin_number builtins.Add = 3
builtin_number builtins.Any = 4
builtin_number builtins.All = 5
builtin_number builtins.AnyOf = 6
builtin_number builtins.AllOf = 7
builtin_number builtins.Map = 8
builtin_number builtins.Select = 9
builtin_number builtins.Empty = 10
builtin_number builtins.Not = 11
builtin_number builtins.Type = 12
builtin_number builtins.Error = 13
builtin_number builtins.ErrorWith = 14
builtin_number builtins.ToString = 15
builtin_number builtins.ToJson = 16
builtin_number builtins.ToNumber = 17
builtin_number builtins.ToEntries = 18
builtin_number builtins.FromEntries = 19
builtin_number builtins.WithEntries = 20
builtin_number builtins.Sort = 21
builtin_number builtins.SortBy = 22
builtin_number builtins.Unique = 23
builtin_number builtins.Min = 24
builtin_number builtins.Max = 25
builtin_number builtins.Reverse = 26
builtin_number builtins.Join = 27
builtin_number builtins.Split = 28
builtin_number builtins.StartsWith = 29
builtin_number builtins.EndsWith = 30
builtin_number builtins.AsciiDowncase = 31
builtin_number builtins.AsciiUpcase = 32
builtin_number builtins.RangeTo = 33
builtin_number builtins.RangeFrom = 34
builtin_number builtins.First = 35
builtin_number builtins.Last = 36
builtin_number builtins.FirstOf = 37

abbrev builtin_at : ℕ → Builtin
builtin_at n =
    if n == 0 then builtins.Length
    else if n == 1 then builtins.Keys
    else if n == 2 then builtins.Has
    else if n == 3 then builtins.Add
    else if n == 4 then builtins.Any
    else if n == 5 then builtins.All
    else if n == 6 then builtins.AnyOf
    else if n == 7 then builtins.AllOf
    else if n == 8 then builtins.Map
    else if n == 9 then builtins.Select
    else if n == 10 then builtins.Empty
    else if n == 11 then builtins.Not
    else if n == 12 then builtins.Type
    else if n == 13 then builtins.Error
    else if n == 14 then builtins.ErrorWith
    else if n == 15 then builtins.ToString
    else if n == 16 then builtins.ToJson
    else if n == 17 then builtins.ToNumber
    else if n == 18 then builtins.ToEntries
    else if n == 19 then builtins.FromEntries
    else if n == 20 then builtins.WithEntries
    else if n == 21 then builtins.Sort
    else if n == 22 then builtins.SortBy
    else if n == 23 then builtins.Unique
    else if n == 24 then builtins.Min
    else if n == 25 then builtins.Max
    else if n == 26 then builtins.Reverse
    else if n == 27 then builtins.Join
    else if n == 28 then builtins.Split
    else if n == 29 then builtins.StartsWith
    else if n == 30 then builtins.EndsWith
    else if n == 31 then builtins.AsciiDowncase
    else if n == 32 then builtins.AsciiUpcase
    else if n == 33 then builtins.RangeTo
    else if n == 34 then builtins.RangeFrom
    else if n == 35 then builtins.First
    else if n == 36 then builtins.Last
    else builtins.FirstOf

pub builtin_back : (x : Builtin) → builtin_at (builtin_number x) ≡ x
builtin_back builtins.Length = refl
builtin_back builtins.Keys = refl
builtin_back builtins.Has = refl
builtin_back builtins.Add = refl
builtin_back builtins.Any = refl
builtin_back builtins.All = refl
builtin_back builtins.AnyOf = refl
builtin_back builtins.AllOf = refl
builtin_back builtins.Map = refl
builtin_back builtins.Select = refl
builtin_back builtins.Empty = refl
builtin_back builtins.Not = refl
builtin_back builtins.Type = refl
builtin_back builtins.Error = refl
builtin_back builtins.ErrorWith = refl
builtin_back builtins.ToString = refl
builtin_back builtins.ToJson = refl
builtin_back builtins.ToNumber = refl
builtin_back builtins.ToEntries = refl
builtin_back builtins.FromEntries = refl
builtin_back builtins.WithEntries = refl
builtin_back builtins.Sort = refl
builtin_back builtins.SortBy = refl
builtin_back builtins.Unique = refl
builtin_back builtins.Min = refl
builtin_back builtins.Max = refl
builtin_back builtins.Reverse = refl
builtin_back builtins.Join = refl
builtin_back builtins.Split = refl
builtin_back builtins.StartsWith = refl
builtin_back builtins.EndsWith = refl
builtin_back builtins.AsciiDowncase = refl
builtin_back builtins.AsciiUpcase = refl
builtin_back builtins.RangeTo = refl
builtin_back builtins.RangeFrom = refl
builtin_back builtins.First = refl
builtin_back builtins.Last = refl
builtin_back builtins.FirstOf = refl

abbrev builtin_code : Coded Builtin
builtin_code = code_by ℕ coded_ℕ builtin_number builtin_at builtin_back

abbrev head : Gv → Gv
head gnil = gnil
head (gnum n) = gnil
head (gcons a b) = a

abbrev tail : Gv → Gv
tail gnil = gnil
tail (gnum n) = gnil
tail (gcons a b) = b

abbrev number_at : Gv → ℕ
number_at gnil = 0
number_at (gnum n) = n
number_at (gcons a b) = 0

-- the number that tells a code's shape
abbrev tag : Gv → ℕ
tag g = number_at (head g)

abbrev IsCons : Gv → Type 0
IsCons gnil = ⊥
IsCons (gnum n) = ⊥
IsCons (gcons a b) = Unit {0}

-- a number that tells two shapes apart, and what the shape holds
abbrev tagged : ℕ → Gv → Gv
tagged n g = gcons (gnum n) g

abbrev coded_text : List ℕ → Gv
coded_text t = (coded_list coded_ℕ).code t

abbrev mutual
  pub code_tree : Tree → Gv
  code_tree here = tagged 0 gnil
  code_tree (lit a0) = tagged 1 (gcons (value_code.code a0) gnil)
  code_tree (var a0) = tagged 2 (gcons (coded_text a0) gnil)
  code_tree (index a0 a1) = tagged 3 (gcons (code_tree a0) (gcons (code_tree a1) gnil))
  code_tree (iterate a0) = tagged 4 (gcons (code_tree a0) gnil)
  code_tree (maybe a0) = tagged 5 (gcons (code_tree a0) gnil)
  code_tree (pipe a0 a1) = tagged 6 (gcons (code_tree a0) (gcons (code_tree a1) gnil))
  code_tree (both a0 a1) = tagged 7 (gcons (code_tree a0) (gcons (code_tree a1) gnil))
  code_tree (alt a0 a1) = tagged 8 (gcons (code_tree a0) (gcons (code_tree a1) gnil))
  code_tree (or a0 a1) = tagged 9 (gcons (code_tree a0) (gcons (code_tree a1) gnil))
  code_tree (and a0 a1) = tagged 10 (gcons (code_tree a0) (gcons (code_tree a1) gnil))
  code_tree (binary a0 a1 a2) = tagged 11 (gcons (op_code.code a0) (gcons (code_tree a1) (gcons (code_tree a2) gnil)))
  code_tree (neg a0) = tagged 12 (gcons (code_tree a0) gnil)
  code_tree empty_list = tagged 13 gnil
  code_tree (list_of a0) = tagged 14 (gcons (code_tree a0) gnil)
  code_tree (object_of a0) = tagged 15 (gcons (code_pairs a0) gnil)
  code_tree (if_then a0 a1) = tagged 16 (gcons (code_tree a0) (gcons (code_tree a1) gnil))
  code_tree (if_else a0 a1 a2) = tagged 17 (gcons (code_tree a0) (gcons (code_tree a1) (gcons (code_tree a2) gnil)))
  code_tree (bind a0 a1 a2) = tagged 18 (gcons (code_tree a0) (gcons (coded_text a1) (gcons (code_tree a2) gnil)))
  code_tree (apply a0 a1) = tagged 19 (gcons (builtin_code.code a0) (gcons (code_trees a1) gnil))

  pub code_trees : Trees → Gv
  code_trees no_trees = gnil
  code_trees (tree e es) = gcons (code_tree e) (code_trees es)

  pub code_pairs : Pairs → Gv
  code_pairs no_pairs = gnil
  code_pairs (pair k v ps) = gcons (code_tree k) (gcons (code_tree v) (code_pairs ps))

mutual
  pub code_tree_inj : (x y : Tree) → code_tree x ≡ code_tree y → x ≡ y
  code_tree_inj here here p = λ i. here
  code_tree_inj (lit a0) (lit b0) p = λ i. lit (value_code.inj a0 b0 (ap (λ g. head (tail g)) p) i)
  code_tree_inj (var a0) (var b0) p = λ i. var ((coded_list coded_ℕ).inj a0 b0 (ap (λ g. head (tail g)) p) i)
  code_tree_inj (index a0 a1) (index b0 b1) p = λ i. index (code_tree_inj a0 b0 (ap (λ g. head (tail g)) p) i) (code_tree_inj a1 b1 (ap (λ g. head (tail (tail g))) p) i)
  code_tree_inj (iterate a0) (iterate b0) p = λ i. iterate (code_tree_inj a0 b0 (ap (λ g. head (tail g)) p) i)
  code_tree_inj (maybe a0) (maybe b0) p = λ i. maybe (code_tree_inj a0 b0 (ap (λ g. head (tail g)) p) i)
  code_tree_inj (pipe a0 a1) (pipe b0 b1) p = λ i. pipe (code_tree_inj a0 b0 (ap (λ g. head (tail g)) p) i) (code_tree_inj a1 b1 (ap (λ g. head (tail (tail g))) p) i)
  code_tree_inj (both a0 a1) (both b0 b1) p = λ i. both (code_tree_inj a0 b0 (ap (λ g. head (tail g)) p) i) (code_tree_inj a1 b1 (ap (λ g. head (tail (tail g))) p) i)
  code_tree_inj (alt a0 a1) (alt b0 b1) p = λ i. alt (code_tree_inj a0 b0 (ap (λ g. head (tail g)) p) i) (code_tree_inj a1 b1 (ap (λ g. head (tail (tail g))) p) i)
  code_tree_inj (or a0 a1) (or b0 b1) p = λ i. or (code_tree_inj a0 b0 (ap (λ g. head (tail g)) p) i) (code_tree_inj a1 b1 (ap (λ g. head (tail (tail g))) p) i)
  code_tree_inj (and a0 a1) (and b0 b1) p = λ i. and (code_tree_inj a0 b0 (ap (λ g. head (tail g)) p) i) (code_tree_inj a1 b1 (ap (λ g. head (tail (tail g))) p) i)
  code_tree_inj (binary a0 a1 a2) (binary b0 b1 b2) p = λ i. binary (op_code.inj a0 b0 (ap (λ g. head (tail g)) p) i) (code_tree_inj a1 b1 (ap (λ g. head (tail (tail g))) p) i) (code_tree_inj a2 b2 (ap (λ g. head (tail (tail (tail g)))) p) i)
  code_tree_inj (neg a0) (neg b0) p = λ i. neg (code_tree_inj a0 b0 (ap (λ g. head (tail g)) p) i)
  code_tree_inj empty_list empty_list p = λ i. empty_list
  code_tree_inj (list_of a0) (list_of b0) p = λ i. list_of (code_tree_inj a0 b0 (ap (λ g. head (tail g)) p) i)
  code_tree_inj (object_of a0) (object_of b0) p = λ i. object_of (code_pairs_inj a0 b0 (ap (λ g. head (tail g)) p) i)
  code_tree_inj (if_then a0 a1) (if_then b0 b1) p = λ i. if_then (code_tree_inj a0 b0 (ap (λ g. head (tail g)) p) i) (code_tree_inj a1 b1 (ap (λ g. head (tail (tail g))) p) i)
  code_tree_inj (if_else a0 a1 a2) (if_else b0 b1 b2) p = λ i. if_else (code_tree_inj a0 b0 (ap (λ g. head (tail g)) p) i) (code_tree_inj a1 b1 (ap (λ g. head (tail (tail g))) p) i) (code_tree_inj a2 b2 (ap (λ g. head (tail (tail (tail g)))) p) i)
  code_tree_inj (bind a0 a1 a2) (bind b0 b1 b2) p = λ i. bind (code_tree_inj a0 b0 (ap (λ g. head (tail g)) p) i) ((coded_list coded_ℕ).inj a1 b1 (ap (λ g. head (tail (tail g))) p) i) (code_tree_inj a2 b2 (ap (λ g. head (tail (tail (tail g)))) p) i)
  code_tree_inj (apply a0 a1) (apply b0 b1) p = λ i. apply (builtin_code.inj a0 b0 (ap (λ g. head (tail g)) p) i) (code_trees_inj a1 b1 (ap (λ g. head (tail (tail g))) p) i)
  code_tree_inj x y p = absurd (false≢true (eq-eqb (tag (code_tree x)) (tag (code_tree y)) (ap tag p)))

  pub code_trees_inj : (x y : Trees) → code_trees x ≡ code_trees y → x ≡ y
  code_trees_inj no_trees no_trees p = λ i. no_trees
  code_trees_inj (tree a ds) (tree b es) p = λ i. tree (code_tree_inj a b (ap head p) i) (code_trees_inj ds es (ap tail p) i)
  code_trees_inj no_trees (tree b es) p = absurd (subst IsCons (sym p) tt)
  code_trees_inj (tree a ds) no_trees p = absurd (subst IsCons p tt)

  pub code_pairs_inj : (x y : Pairs) → code_pairs x ≡ code_pairs y → x ≡ y
  code_pairs_inj no_pairs no_pairs p = λ i. no_pairs
  code_pairs_inj (pair k a ms) (pair l b ns) p = λ i. pair (code_tree_inj k l (ap head p) i) (code_tree_inj a b (ap (λ g. head (tail g)) p) i) (code_pairs_inj ms ns (ap (λ g. tail (tail g)) p) i)
  code_pairs_inj no_pairs (pair l b ns) p = absurd (subst IsCons (sym p) tt)
  code_pairs_inj (pair k a ms) no_pairs p = absurd (subst IsCons p tt)

abbrev pub tree_code : Coded Tree
tree_code = record { code = code_tree; inj = code_tree_inj }

abbrev pub trees_code : Coded Trees
trees_code = record { code = code_trees; inj = code_trees_inj }

abbrev pub pairs_code : Coded Pairs
pairs_code = record { code = code_pairs; inj = code_pairs_inj }
