-- What an expression gives for an input (jq 1.7 manual, from «Basic filters» on).
use Rattle.std.specs.Prelude.{ℕ, pos, List, [], ◌∷◌, true, false, length, codes, if◌then◌else◌, Result, Ok, Err}
use Rattle.swf_expr.specs.declared.builtin.Builtin.{Builtin}
use Rattle.swf_expr.specs.declared.builtin.Builtin.TheVariants as builtins
use Rattle.swf_expr.specs.Expr.{Tree, here, lit, var, index, iterate, maybe, pipe, both, alt, or, and, binary, neg, empty_list, list_of, object_of, if_then, if_else, bind, apply, Trees, no_trees, tree, Pairs, no_pairs, pair}
use Rattle.swf_text.specs.Same.{same}
use Rattle.swf_value.specs.Value.{Value, null, boolean, int, text, list, object, no_items, no_members}
use Rattle.swf_evaluation.specs.Operations.{Answer, fails, is_true, index_of, parts_of, operate, negated}
use Rattle.swf_value.specs.Members.{put, values_of}
use Rattle.swf_evaluation.specs.Builtins.{plain, with_one, range_of, by_keys}
use Rattle.swf_evaluation.specs.Run.{Run, clean, gave, gives, none, raises, spend, turn, too_deep, is_shallow, made, followed_by, over, caught, alternative, gathered, list_with, firsts, answered, made_of, spread, onward, across, until}

-- names and their values, the innermost first
abbrev pub Scope : Type 0
Scope = List (List ℕ × Value)

-- the value of a name, and null where it has none
abbrev pub named : List ℕ → Scope → Value
named x [] = null
named x (b ∷ r) = if same x b.0 then b.1 else named x r

-- an object with one more member, whose key is a text
abbrev pub with_member : Value → Value → Value → Answer
with_member (text k) v (object ms) = Ok (object (put k v ms))
with_member k v o = fails (codes "cannot key")

-- the items of an array
abbrev pub array_of : List ℕ → Value → Result (List Value) Value
array_of name (list vs) = Ok (values_of vs)
array_of name v = Err (text name)

-- the numbers from the first to below the second, each of which takes a turn
abbrev pub ranged : Value → Value → Run
ranged a b = across (range_of a b) (λ ns. spend (length ns) (gave ns clean))

-- the parts of a value that is made on the way
abbrev pub parts_of_made : Answer → Result (List Value) Value
parts_of_made (Ok v) = if is_shallow v then parts_of v else Err too_deep
parts_of_made (Err m) = Err m

-- the object of a list of entries that is made on the way
abbrev pub rebuilt_from : Value → Run
rebuilt_from v = if is_shallow v then made_of (plain builtins.FromEntries v) else raises too_deep

-- the object of these entries
abbrev pub rebuilt : List Value → Run
rebuilt vs = rebuilt_from (list_with vs)

-- the value that the outputs of `f` make a key of
abbrev pub key_by : (Value → Run) → Value → Run
key_by f x = gathered (f x) (λ ks. gives (list_with ks))

abbrev pub sorted_by : (Value → Run) → List Value → Run
sorted_by f vs = gathered (over (gave vs clean) (key_by f)) (λ ks. made (list_with (by_keys vs ks)))

-- a built-in without arguments
abbrev pub alone : Builtin → Value → Run
alone builtins.Empty v = none
alone builtins.Error v = raises v
alone b v = made_of (plain b v)

-- a built-in with one argument
abbrev pub with_argument : Builtin → (Value → Run) → Value → Run
with_argument builtins.AnyOf f v = across (array_of (codes "cannot any") v) (until true f)
with_argument builtins.AllOf f v = across (array_of (codes "cannot all") v) (until false f)
with_argument builtins.Map f v = gathered (over (spread (parts_of v)) f) (λ vs. made (list_with vs))
with_argument builtins.Select f v = over (f v) (λ y. if is_true y then made v else none)
with_argument builtins.ErrorWith f v = over (f v) raises
with_argument builtins.WithEntries f v = gathered (over (spread (parts_of_made (plain builtins.ToEntries v))) f) rebuilt
with_argument builtins.SortBy f v = across (array_of (codes "cannot sort_by") v) (sorted_by f)
with_argument builtins.RangeTo f v = over (f v) (ranged (int (pos 0)))
with_argument builtins.FirstOf f v = firsts (f v)
with_argument b f v = over (f v) (λ y. made_of (with_one b v y))

-- a built-in by the number of its arguments; of the two of a range the first is the outer loop
abbrev pub applied : Builtin → List (Value → Run) → Value → Run
applied b [] v = alone b v
applied b (f ∷ []) v = with_argument b f v
applied b (f ∷ g ∷ gs) v = over (f v) (λ x. over (g v) (λ y. ranged x y))

abbrev mutual
  -- what an expression gives, but for its own turn
  pub node : Tree → Scope → Value → Run
  node here r v = gives v
  node (lit w) r v = gives w
  node (var x) r v = gives (named x r)
  node (index a k) r v = over (turn (node k r v)) (λ y. over (turn (node a r v)) (λ x. answered (index_of x y)))
  node (iterate a) r v = over (turn (node a r v)) (λ x. spread (parts_of x))
  node (maybe a) r v = caught (turn (node a r v))
  node (pipe a b) r v = over (turn (node a r v)) (λ x. turn (node b r x))
  node (both a b) r v = followed_by (turn (node a r v)) (turn (node b r v))
  node (alt a b) r v = alternative (turn (node a r v)) (turn (node b r v))
  node (or a b) r v = over (turn (node a r v)) (λ x. if is_true x then made (boolean true) else over (turn (node b r v)) (λ y. made (boolean (is_true y))))
  node (and a b) r v = over (turn (node a r v)) (λ x. if is_true x then over (turn (node b r v)) (λ y. made (boolean (is_true y))) else made (boolean false))
  node (binary o a b) r v = over (turn (node b r v)) (λ y. over (turn (node a r v)) (λ x. made_of (operate o x y)))
  node (neg a) r v = over (turn (node a r v)) (λ x. made_of (negated x))
  node empty_list r v = made (list no_items)
  node (list_of a) r v = gathered (turn (node a r v)) (λ vs. made (list_with vs))
  node (object_of ps) r v = objects ps (object no_members) r v
  node (if_then c a) r v = over (turn (node c r v)) (λ x. if is_true x then turn (node a r v) else gives v)
  node (if_else c a b) r v = over (turn (node c r v)) (λ x. if is_true x then turn (node a r v) else turn (node b r v))
  node (bind a x b) r v = over (turn (node a r v)) (λ y. turn (node b ((x, y) ∷ r) v))
  node (apply b es) r v = applied b (runs es r) v

  -- the objects that the pairs that are left make of an object; an earlier pair is the outer loop, and in a pair the key
  pub objects : Pairs → Value → Scope → Value → Run
  objects no_pairs o r v = made o
  objects (pair k w ps) o r v = over (turn (node k r v)) (λ y. over (turn (node w r v)) (λ x. onward (with_member y x o) (λ p. objects ps p r v)))

  pub runs : Trees → Scope → List (Value → Run)
  runs no_trees r = []
  runs (tree e es) r = (λ v. turn (node e r v)) ∷ runs es r

-- what an expression gives for an input: every expression takes a turn
abbrev pub run : Tree → Scope → Value → Run
run e r v = turn (node e r v)
