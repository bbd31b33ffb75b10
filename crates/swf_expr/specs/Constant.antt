-- The object that members make whose keys and values are literals.
use Rattle.std.specs.Prelude.{Option, Some, None}
use Rattle.swf_expr.specs.Expr.{lit, Pairs, no_pairs, pair}
use Rattle.swf_value.specs.Grow.{with_put}
use Rattle.swf_value.specs.Value.{Value, text, object, no_members}

-- an object with these members, put one by one; nothing where one is no literal
abbrev pub constant_from : Pairs → Value → Option Value
constant_from no_pairs o = Some o
constant_from (pair (lit (text k)) (lit v) ps) o = constant_from ps (with_put o k v)
constant_from (pair k v ps) o = None

abbrev pub constant_of : Pairs → Option Value
constant_of ps = constant_from ps (object no_members)
