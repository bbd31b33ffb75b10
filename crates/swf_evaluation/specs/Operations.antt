-- What operators make of values (jq 1.7 manual, «Basic filters», «Builtin operators and functions» and «Conditionals and Comparisons»).
use Rattle.std.specs.Prelude.{ℕ, ◌-◌, ℤ, pos, negsuc, zero, suc, ◌+ℤ◌, ◌-ℤ◌, ◌*ℤ◌, neg_ℤ, int_div, int_rem, List, ◌++◌, length, filter, Bool, true, false, not, codes, unwrap_or, Result, Ok, Err, nat_lt, slice_index_or, if◌then◌else◌}
use Rattle.std.specs.List.{list_any}
use Rattle.std.specs.Ordering.{is_eq, is_ne, is_lt, is_le, is_gt, is_ge}
use Rattle.swf_value.specs.Members.{at, put, values_of, member_values}
use Rattle.swf_value.specs.Node.{items_of}
use Rattle.swf_value.specs.Order.{value_cmp}
use Rattle.swf_value.specs.Read.{in_range}
use Rattle.swf_value.specs.Value.{Value, null, boolean, int, text, list, object, Members, no_members, member}
use Rattle.swf_expr.specs.declared.op.Op.{Op}
use Rattle.swf_expr.specs.declared.op.Op.TheVariants as ops

-- a value, or the text of an error
abbrev pub Answer : Type 0
Answer = Result Value Value

-- the error of this text
abbrev pub fails : List ℕ → Answer
fails t = Err (text t)

-- false and null are false
abbrev pub is_true : Value → Bool
is_true null = false
is_true (boolean b) = b
is_true (int z) = true
is_true (text t) = true
is_true (list ds) = true
is_true (object ms) = true

abbrev pub is_same : Value → Value → Bool
is_same v w = is_eq (value_cmp v w)

-- a number, where it is in range
abbrev pub whole : ℤ → Answer
whole z = if in_range z then Ok (int z) else fails (codes "out of range")

-- the item at a place, counted from the end where that is negative; null where there is none
abbrev pub item_at : ℤ → List Value → Value
item_at (pos n) vs = slice_index_or vs n null
item_at (negsuc n) vs = if nat_lt n (length vs) then slice_index_or vs (length vs - suc n) null else null

-- the value at a key
abbrev pub index_of : Value → Value → Answer
index_of null (text k) = Ok null
index_of null (int z) = Ok null
index_of (object ms) (text k) = Ok (unwrap_or (at k ms) null)
index_of (list ds) (int z) = Ok (item_at z (values_of ds))
index_of v k = fails (codes "cannot index")

-- the items of a list, or the values of an object by ascending name
abbrev pub parts_of : Value → Result (List Value) Value
parts_of (list ds) = Ok (values_of ds)
parts_of (object ms) = Ok (member_values ms)
parts_of v = Err (text (codes "cannot iterate"))

-- the members of both, where those of the second replace equal names
abbrev pub merged : Members → Members → Members
merged ms no_members = ms
merged ms (member k d ns) = merged (put k d ms) ns

abbrev pub sum_of : Value → Value → Answer
sum_of null w = Ok w
sum_of v null = Ok v
sum_of (int y) (int z) = whole (y +ℤ z)
sum_of (text s) (text t) = Ok (text (s ++ t))
sum_of (list ds) (list es) = Ok (list (items_of (values_of ds ++ values_of es)))
sum_of (object ms) (object ns) = Ok (object (merged ms ns))
sum_of v w = fails (codes "cannot add")

-- the items that equal none of the others
abbrev pub without : List Value → List Value → List Value
without vs ws = filter (λ v. not (list_any (is_same v) ws)) vs

abbrev pub difference_of : Value → Value → Answer
difference_of (int y) (int z) = whole (y -ℤ z)
difference_of (list ds) (list es) = Ok (list (items_of (without (values_of ds) (values_of es))))
difference_of v w = fails (codes "cannot subtract")

abbrev pub product_of : Value → Value → Answer
product_of (int y) (int z) = whole (y *ℤ z)
product_of v w = fails (codes "cannot multiply")

abbrev pub is_zero : ℤ → Bool
is_zero (pos zero) = true
is_zero (pos (suc n)) = false
is_zero (negsuc n) = false

-- only where nothing is left over
abbrev pub quotient_of : Value → Value → Answer
quotient_of (int y) (int z) =
    if is_zero z then fails (codes "cannot divide")
    else (if is_zero (int_rem y z) then whole (int_div y z) else fails (codes "cannot divide"))
quotient_of v w = fails (codes "cannot divide")

-- what is left over, with the sign of the dividend
abbrev pub rest_of : Value → Value → Answer
rest_of (int y) (int z) = if is_zero z then fails (codes "cannot modulo") else whole (int_rem y z)
rest_of v w = fails (codes "cannot modulo")

-- what an operator makes of its left and its right operand
abbrev pub operate : Op → Value → Value → Answer
operate ops.Equal v w = Ok (boolean (is_eq (value_cmp v w)))
operate ops.NotEqual v w = Ok (boolean (is_ne (value_cmp v w)))
operate ops.Less v w = Ok (boolean (is_lt (value_cmp v w)))
operate ops.AtMost v w = Ok (boolean (is_le (value_cmp v w)))
operate ops.Greater v w = Ok (boolean (is_gt (value_cmp v w)))
operate ops.AtLeast v w = Ok (boolean (is_ge (value_cmp v w)))
operate ops.Add v w = sum_of v w
operate ops.Subtract v w = difference_of v w
operate ops.Multiply v w = product_of v w
operate ops.Divide v w = quotient_of v w
operate ops.Modulo v w = rest_of v w

-- a number with the other sign
abbrev pub negated : Value → Answer
negated (int z) = whole (neg_ℤ z)
negated v = fails (codes "cannot negate")
