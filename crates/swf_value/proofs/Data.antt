-- The data of `serde_json` that a value stands for.
use Rattle.std.proofs.Common.{◌≡◌, ap, ap₂, refl, suc, max, ◌<◌, ◌^◌, pos, negsuc, ℤ, Bool, T, true, false, Some, option_map, arith}
use Rattle.std.proofs.lemmas.Bool.{and_from}
use Rattle.std.proofs.lemmas.Int.{ints}
use Rattle.std.proofs.lemmas.Str.{chars-encodes}
use lib.Signed.{mag}
use Rattle.std.specs.Str.{encode_utf8_all}
use Rattle.serde_json.specs.Data as json
use Rattle.serde_json.specs.Find.{of_integer, as_integer}
use Rattle.swf_value.specs.Value.{Value, null, boolean, int, text, list, object, Items, no_items, item, Members, no_members, member, InRange, IsValue, AreItems, AreMembers, depth, depth_items, depth_members}
use Rattle.swf_value.specs.Read.{in_range, whole, whole_items, whole_members}

abbrev mutual
  pub data_of : Value → json.Data
  data_of null = json.null
  data_of (boolean b) = json.boolean b
  data_of (int z) = json.number (of_integer z)
  data_of (text t) = json.string (encode_utf8_all t)
  data_of (list ds) = json.array (items_data ds)
  data_of (object ms) = json.object (members_data ms)

  pub items_data : Items → json.Items
  items_data no_items = json.no_items
  items_data (item d ds) = json.item (data_of d) (items_data ds)

  pub members_data : Members → json.Members
  members_data no_members = json.no_members
  members_data (member k d ms) = json.member (encode_utf8_all k) (data_of d) (members_data ms)

mutual
  pub depth-data_of : (v : Value) → json.depth (data_of v) ≡ depth v
  depth-data_of null = refl
  depth-data_of (boolean b) = refl
  depth-data_of (int z) = refl
  depth-data_of (text t) = refl
  depth-data_of (list ds) = ap suc (depth-items_data ds)
  depth-data_of (object ms) = ap suc (depth-members_data ms)

  depth-items_data : (ds : Items) → json.items_depth (items_data ds) ≡ depth_items ds
  depth-items_data no_items = refl
  depth-items_data (item d ds) = ap₂ max (depth-data_of d) (depth-items_data ds)

  depth-members_data : (ms : Members) → json.members_depth (members_data ms) ≡ depth_members ms
  depth-members_data no_members = refl
  depth-members_data (member k d ms) = ap₂ max (depth-data_of d) (depth-members_data ms)

-- an integer in range is 53 bits long
pub mag-in_range : (z : ℤ) → InRange z → mag z < 2 ^ 53
mag-in_range (pos n) h = omega (arith, ints, h.0, h.1)
mag-in_range (negsuc n) h = omega (arith, ints, h.0, h.1)

is_true : (b : Bool) → T b → b ≡ true
is_true true t = refl
is_true false t = absurd t

in_range-true : (z : ℤ) → InRange z → in_range z ≡ true
in_range-true z h = and_from _ _ (is_true _ h.0.le) (is_true _ h.1.le)

as_integer-of_integer : (z : ℤ) → as_integer (of_integer z) ≡ Some z
as_integer-of_integer (pos n) = refl
as_integer-of_integer (negsuc n) = refl

mutual
  pub whole-data_of : (v : Value) → IsValue v → whole (data_of v) ≡ Some v
  whole-data_of null h = refl
  whole-data_of (boolean b) h = refl
  whole-data_of (int z) h = rw (as_integer-of_integer z, in_range-true z h) refl
  whole-data_of (text t) h = ap (λ cs. Some (text cs)) (chars-encodes t h)
  whole-data_of (list ds) h = ap (option_map list) (whole-items_data ds h)
  whole-data_of (object ms) h = ap (option_map object) (whole-members_data ms h.1)

  whole-items_data : (ds : Items) → AreItems ds → whole_items (items_data ds) ≡ Some ds
  whole-items_data no_items h = refl
  whole-items_data (item d ds) h = rw (whole-data_of d h.0, whole-items_data ds h.1) refl

  whole-members_data : (ms : Members) → AreMembers ms → whole_members (members_data ms) ≡ Some ms
  whole-members_data no_members h = refl
  whole-members_data (member k d ms) h = rw (whole-data_of d h.1, whole-members_data ms h.2, chars-encodes k h.0) refl
