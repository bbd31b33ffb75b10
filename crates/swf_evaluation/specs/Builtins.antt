-- What the built-in functions make of values (jq 1.7 manual, «Builtin operators and functions»).
use Rattle.std.specs.Prelude.{ℕ, ◌+◌, ◌-◌, ◌*◌, ℤ, pos, negsuc, zero, suc, ◌+ℤ◌, ◌-ℤ◌, nat_abs, int_le, int_lt, List, [], ◌∷◌, ◌++◌, length, map, reverse, zip, Bool, true, false, not, ◌&&◌, ◌==◌, codes, chars, fold, Option, Some, None, unwrap_or, option_map, option_and_then, Result, Ok, Err, if◌then◌else◌}
use Rattle.std.specs.Char.{to_ascii_lowercase, to_ascii_uppercase}
use Rattle.std.specs.List.{list_any, list_all, starts_with, ends_with, join_by}
use Rattle.std.specs.Ordering.{is_lt, is_gt}
use Rattle.swf_expr.specs.Builtin.{builtin_name}
use Rattle.swf_text.specs.Ascii.{is_digit}
use Rattle.swf_value.specs.Members.{at, member_at, put, values_of, member_names, member_values}
use Rattle.swf_value.specs.Node.{items_of}
use Rattle.swf_value.specs.Order.{value_cmp}
use Rattle.swf_value.specs.Read.{in_range}
use Rattle.swf_value.specs.Value.{Value, null, boolean, int, text, list, object, Members, no_members, member}
use Rattle.swf_value.specs.Written.{written}
use Rattle.swf_expr.specs.declared.builtin.Builtin.{Builtin}
use Rattle.swf_expr.specs.declared.builtin.Builtin.TheVariants as builtins
use Rattle.swf_evaluation.specs.Operations.{Answer, fails, is_true, is_same, whole, index_of, sum_of}

-- the error of a value that a built-in doesn't take
abbrev pub cannot : Builtin → Answer
cannot f = fails (codes "cannot " ++ builtin_name f)

-- a list of these items
abbrev pub listed : List Value → Answer
listed vs = Ok (list (items_of vs))

-- so many numbers from the first on
abbrev pub numbers_from : ℤ → ℕ → List Value
numbers_from z zero = []
numbers_from z (suc n) = int z ∷ numbers_from (z +ℤ pos 1) n

abbrev pub length_of : Value → Answer
length_of null = Ok (int (pos 0))
length_of (int z) = whole (pos (nat_abs z))
length_of (text t) = whole (pos (length t))
length_of (list ds) = whole (pos (length (values_of ds)))
length_of (object ms) = whole (pos (length (member_values ms)))
length_of v = cannot builtins.Length

-- the places of a list of this length, where they are in range
abbrev pub places_of : ℕ → Answer
places_of n = if in_range (pos n) then listed (numbers_from (pos 0) n) else fails (codes "out of range")

abbrev pub keys_of : Value → Answer
keys_of (object ms) = listed (map text (member_names ms))
keys_of (list ds) = places_of (length (values_of ds))
keys_of v = cannot builtins.Keys

abbrev pub is_place : ℤ → ℕ → Bool
is_place z n = int_le (pos 0) z && int_lt z (pos n)

abbrev pub is_there : Option Value → Bool
is_there None = false
is_there (Some v) = true

abbrev pub has : Value → Value → Answer
has (object ms) (text k) = Ok (boolean (is_there (at k ms)))
has (list ds) (int z) = Ok (boolean (is_place z (length (values_of ds))))
has v k = cannot builtins.Has

-- what follows an answer, unless it is an error
abbrev pub and_then : Answer → (Value → Answer) → Answer
and_then (Ok v) next = next v
and_then (Err e) next = Err e

-- the values added in order to the first, up to the first error
abbrev pub summed : Value → List Value → Answer
summed v [] = Ok v
summed v (w ∷ ws) = and_then (sum_of v w) (λ x. summed x ws)

abbrev pub total_of : Value → Answer
total_of (list ds) = summed null (values_of ds)
total_of (object ms) = summed null (member_values ms)
total_of v = cannot builtins.Add

-- the first that is not null; null where there is none
abbrev pub lead : List Value → Value
lead [] = null
lead (null ∷ vs) = lead vs
lead (v ∷ vs) = v

abbrev pub any_of : Value → Answer
any_of (list ds) = Ok (boolean (list_any is_true (values_of ds)))
any_of v = cannot builtins.Any

abbrev pub all_of : Value → Answer
all_of (list ds) = Ok (boolean (list_all is_true (values_of ds)))
all_of v = cannot builtins.All

abbrev pub type_name : Value → List ℕ
type_name null = codes "null"
type_name (boolean b) = codes "boolean"
type_name (int z) = codes "number"
type_name (text t) = codes "string"
type_name (list ds) = codes "array"
type_name (object ms) = codes "object"

abbrev pub json_text : Value → List ℕ
json_text v = chars (written v)

-- a text itself, and else the value's JSON text
abbrev pub word_of : Value → List ℕ
word_of (text t) = t
word_of v = json_text v

abbrev pub decimal_value : List ℕ → ℕ
decimal_value t = fold (λ n c. 10 * n + (c - 48)) 0 t

-- `0`, or digits without a leading zero
abbrev pub is_numeral : List ℕ → Bool
is_numeral [] = false
is_numeral (c ∷ []) = is_digit c
is_numeral (c ∷ d ∷ t) = not (c == 48) && list_all is_digit (c ∷ d ∷ t)

-- the number that a numeral is
abbrev pub natural : List ℕ → Option ℕ
natural t = if is_numeral t then Some (decimal_value t) else None

-- a number below zero; none of zero
abbrev pub below_zero : ℕ → Option ℤ
below_zero zero = None
below_zero (suc n) = Some (negsuc n)

-- digits without a leading zero, where `-` may stand before those of a number other than 0
abbrev pub number_in : List ℕ → Option ℤ
number_in [] = None
number_in (c ∷ t) = if c == 45 then option_and_then below_zero (natural t) else option_map pos (natural (c ∷ t))

abbrev pub whole_or : Answer → Option ℤ → Answer
whole_or other None = other
whole_or other (Some z) = whole z

abbrev pub to_number : Value → Answer
to_number (int z) = Ok (int z)
to_number (text t) = whole_or (cannot builtins.ToNumber) (number_in t)
to_number v = cannot builtins.ToNumber

-- an object of a member's name and its value
abbrev pub entry : List ℕ → Value → Value
entry k v = object (member (codes "key") (text k) (member (codes "value") v no_members))

abbrev pub entries_of : Members → List Value
entries_of no_members = []
entries_of (member k d ms) = entry k d ∷ entries_of ms

abbrev pub to_entries : Value → Answer
to_entries (object ms) = listed (entries_of ms)
to_entries v = cannot builtins.ToEntries

abbrev pub text_in : Value → Option (List ℕ)
text_in (text t) = Some t
text_in v = None

-- the text under `key`
abbrev pub entry_name : Value → Option (List ℕ)
entry_name v = option_and_then text_in (member_at (codes "key") v)

-- what stands under `value`, or null
abbrev pub entry_value : Value → Value
entry_value v = unwrap_or (member_at (codes "value") v) null

-- the members that entries name put among others in order; none where one names no member
abbrev pub gathered : Members → List Value → Option Members
gathered ms [] = Some ms
gathered ms (v ∷ vs) = option_and_then (λ k. gathered (put k (entry_value v) ms) vs) (entry_name v)

abbrev pub object_or : Answer → Option Members → Answer
object_or other None = other
object_or other (Some ms) = Ok (object ms)

abbrev pub from_entries : Value → Answer
from_entries (list ds) = object_or (cannot builtins.FromEntries) (gathered no_members (values_of ds))
from_entries v = cannot builtins.FromEntries

-- put before the first whose key is not less
abbrev pub inserted : {X : Type 0} → (X → Value) → X → List X → List X
inserted key x [] = x ∷ []
inserted key x (y ∷ ys) = if is_lt (value_cmp (key y) (key x)) then y ∷ inserted key x ys else x ∷ y ∷ ys

-- by ascending key, where those of equal keys keep their order
abbrev pub sorted : {X : Type 0} → (X → Value) → List X → List X
sorted key [] = []
sorted key (x ∷ xs) = inserted key x (sorted key xs)

abbrev pub sorted_values : List Value → List Value
sorted_values vs = sorted (λ v. v) vs

-- the values in the order of their keys
abbrev pub by_keys : List Value → List Value → List Value
by_keys vs ks = map (λ p. p.1) (sorted (λ p. p.0) (zip ks vs))

-- without those that equal the one before
abbrev pub once_after : Value → List Value → List Value
once_after v [] = []
once_after v (w ∷ ws) = if is_same v w then once_after v ws else w ∷ once_after w ws

abbrev pub once : List Value → List Value
once [] = []
once (v ∷ vs) = v ∷ once_after v vs

abbrev pub sort_of : Value → Answer
sort_of (list ds) = listed (sorted_values (values_of ds))
sort_of v = cannot builtins.Sort

abbrev pub unique_of : Value → Answer
unique_of (list ds) = listed (once (sorted_values (values_of ds)))
unique_of v = cannot builtins.Unique

-- the greater or the lesser of two, and the first where they are equal
abbrev pub better : Bool → Value → Value → Value
better true v w = if is_gt (value_cmp w v) then w else v
better false v w = if is_lt (value_cmp w v) then w else v

-- the greatest or the least of some values; null where there is none
abbrev pub best : Bool → List Value → Value
best b [] = null
best b (v ∷ vs) = fold (better b) v vs

abbrev pub min_of : Value → Answer
min_of (list ds) = Ok (best false (values_of ds))
min_of v = cannot builtins.Min

abbrev pub max_of : Value → Answer
max_of (list ds) = Ok (best true (values_of ds))
max_of v = cannot builtins.Max

abbrev pub reverse_of : Value → Answer
reverse_of (list ds) = listed (reverse (values_of ds))
reverse_of v = cannot builtins.Reverse

-- what `join` writes of an item; none of a list or an object
abbrev pub piece_of : Value → Option (List ℕ)
piece_of null = Some []
piece_of (boolean b) = Some (json_text (boolean b))
piece_of (int z) = Some (json_text (int z))
piece_of (text t) = Some t
piece_of (list ds) = None
piece_of (object ms) = None

abbrev pub pieces_of : List Value → Option (List (List ℕ))
pieces_of [] = Some []
pieces_of (v ∷ vs) = option_and_then (λ t. option_map (λ ts. t ∷ ts) (pieces_of vs)) (piece_of v)

abbrev pub text_or : Answer → Option (List ℕ) → Answer
text_or other None = other
text_or other (Some t) = Ok (text t)

-- the texts with another between each two
abbrev pub joined_or_not : List ℕ → Option (List (List ℕ)) → Answer
joined_or_not s o = text_or (cannot builtins.Join) (option_map (join_by (λ t. t) s) o)

abbrev pub join : Value → Value → Answer
join (list ds) (text s) = joined_or_not s (pieces_of (values_of ds))
join v s = cannot builtins.Join

abbrev pub begins_with : List ℕ → List ℕ → Bool
begins_with t s = starts_with ◌==◌ t s

abbrev pub characters : List ℕ → List Value
characters [] = []
characters (c ∷ t) = text (c ∷ []) ∷ characters t

-- the parts between the occurrences of `s` in what is left of a text, where `skip` characters of an occurrence still stand and the part so far is `part`
abbrev pub split_from : List ℕ → ℕ → List ℕ → List ℕ → List Value
split_from s skip part [] = text part ∷ []
split_from s (suc skip) part (c ∷ t) = split_from s skip part t
split_from s zero part (c ∷ t) =
    if begins_with (c ∷ t) s then text part ∷ split_from s (length s - 1) [] t
    else split_from s 0 (part ++ c ∷ []) t

-- the parts of a text between the occurrences of another, from the left
abbrev pub parts_between : List ℕ → List ℕ → List Value
parts_between [] t = characters t
parts_between (d ∷ s) [] = []
parts_between (d ∷ s) (c ∷ t) = split_from (d ∷ s) 0 [] (c ∷ t)

abbrev pub split : Value → Value → Answer
split (text t) (text s) = listed (parts_between s t)
split v s = cannot builtins.Split

abbrev pub text_begins : Value → Value → Answer
text_begins (text t) (text s) = Ok (boolean (begins_with t s))
text_begins v s = cannot builtins.StartsWith

abbrev pub text_ends : Value → Value → Answer
text_ends (text t) (text s) = Ok (boolean (ends_with ◌==◌ t s))
text_ends v s = cannot builtins.EndsWith

abbrev pub lower_case_of : Value → Answer
lower_case_of (text t) = Ok (text (map to_ascii_lowercase t))
lower_case_of v = cannot builtins.AsciiDowncase

abbrev pub upper_case_of : Value → Answer
upper_case_of (text t) = Ok (text (map to_ascii_uppercase t))
upper_case_of v = cannot builtins.AsciiUpcase

-- how many numbers there are from the first up to below the second
abbrev pub count_between : ℤ → ℤ → ℕ
count_between a b = if int_lt a b then nat_abs (b -ℤ a) else 0

-- the numbers from the first up to below the second
abbrev pub range_of : Value → Value → Result (List Value) Value
range_of (int a) (int b) = Ok (numbers_from a (count_between a b))
range_of v w = Err (text (codes "cannot range"))

-- a built-in without argument that gives one value
abbrev pub plain : Builtin → Value → Answer
plain builtins.Length v = length_of v
plain builtins.Keys v = keys_of v
plain builtins.Add v = total_of v
plain builtins.Any v = any_of v
plain builtins.All v = all_of v
plain builtins.Not v = Ok (boolean (not (is_true v)))
plain builtins.Type v = Ok (text (type_name v))
plain builtins.Error v = Err v
plain builtins.ToString v = Ok (text (word_of v))
plain builtins.ToJson v = Ok (text (json_text v))
plain builtins.ToNumber v = to_number v
plain builtins.ToEntries v = to_entries v
plain builtins.FromEntries v = from_entries v
plain builtins.Sort v = sort_of v
plain builtins.Unique v = unique_of v
plain builtins.Min v = min_of v
plain builtins.Max v = max_of v
plain builtins.Reverse v = reverse_of v
plain builtins.AsciiDowncase v = lower_case_of v
plain builtins.AsciiUpcase v = upper_case_of v
plain builtins.First v = index_of v (int (pos 0))
plain builtins.Last v = index_of v (int (negsuc 0))
plain builtins.Has v = cannot builtins.Has
plain builtins.AnyOf v = cannot builtins.AnyOf
plain builtins.AllOf v = cannot builtins.AllOf
plain builtins.Map v = cannot builtins.Map
plain builtins.Select v = cannot builtins.Select
plain builtins.Empty v = cannot builtins.Empty
plain builtins.ErrorWith v = cannot builtins.ErrorWith
plain builtins.WithEntries v = cannot builtins.WithEntries
plain builtins.SortBy v = cannot builtins.SortBy
plain builtins.Join v = cannot builtins.Join
plain builtins.Split v = cannot builtins.Split
plain builtins.StartsWith v = cannot builtins.StartsWith
plain builtins.EndsWith v = cannot builtins.EndsWith
plain builtins.RangeTo v = cannot builtins.RangeTo
plain builtins.RangeFrom v = cannot builtins.RangeFrom
plain builtins.FirstOf v = cannot builtins.FirstOf

-- a built-in of one argument that is applied once and gives one value
abbrev pub with_one : Builtin → Value → Value → Answer
with_one builtins.Has v a = has v a
with_one builtins.ErrorWith v a = Err a
with_one builtins.Join v a = join v a
with_one builtins.Split v a = split v a
with_one builtins.StartsWith v a = text_begins v a
with_one builtins.EndsWith v a = text_ends v a
with_one builtins.Length v a = cannot builtins.Length
with_one builtins.Keys v a = cannot builtins.Keys
with_one builtins.Add v a = cannot builtins.Add
with_one builtins.Any v a = cannot builtins.Any
with_one builtins.All v a = cannot builtins.All
with_one builtins.AnyOf v a = cannot builtins.AnyOf
with_one builtins.AllOf v a = cannot builtins.AllOf
with_one builtins.Map v a = cannot builtins.Map
with_one builtins.Select v a = cannot builtins.Select
with_one builtins.Empty v a = cannot builtins.Empty
with_one builtins.Not v a = cannot builtins.Not
with_one builtins.Type v a = cannot builtins.Type
with_one builtins.Error v a = cannot builtins.Error
with_one builtins.ToString v a = cannot builtins.ToString
with_one builtins.ToJson v a = cannot builtins.ToJson
with_one builtins.ToNumber v a = cannot builtins.ToNumber
with_one builtins.ToEntries v a = cannot builtins.ToEntries
with_one builtins.FromEntries v a = cannot builtins.FromEntries
with_one builtins.WithEntries v a = cannot builtins.WithEntries
with_one builtins.Sort v a = cannot builtins.Sort
with_one builtins.SortBy v a = cannot builtins.SortBy
with_one builtins.Unique v a = cannot builtins.Unique
with_one builtins.Min v a = cannot builtins.Min
with_one builtins.Max v a = cannot builtins.Max
with_one builtins.Reverse v a = cannot builtins.Reverse
with_one builtins.AsciiDowncase v a = cannot builtins.AsciiDowncase
with_one builtins.AsciiUpcase v a = cannot builtins.AsciiUpcase
with_one builtins.RangeTo v a = cannot builtins.RangeTo
with_one builtins.RangeFrom v a = cannot builtins.RangeFrom
with_one builtins.First v a = cannot builtins.First
with_one builtins.Last v a = cannot builtins.Last
with_one builtins.FirstOf v a = cannot builtins.FirstOf
