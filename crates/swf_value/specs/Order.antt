-- The order of values (jq 1.7 manual, «sort, sort_by(path_expression)»).
use Rattle.std.specs.Prelude.{◌≡◌, ℕ, true, false}
use Rattle.std.specs.Cmp.{IsTotalOrder}
use Rattle.std.specs.Cmp.Lexicographic.{slice_cmp}
use Rattle.std.specs.Ordering.{nat_cmp, int_cmp, ordering_then}
use Rattle.std.specs.declared.cmp.Ordering.{Ordering}
use Rattle.std.specs.declared.cmp.Ordering.TheVariants.{Less, Equal, Greater}
use Rattle.swf_value.specs.Value.{Value, null, boolean, int, text, list, object, Items, no_items, item, Members, no_members, member}

-- the place of a value's kind in the order
abbrev pub rank : Value → ℕ
rank null = 0
rank (boolean false) = 1
rank (boolean true) = 2
rank (int z) = 3
rank (text t) = 4
rank (list ds) = 5
rank (object ms) = 6

-- two lists of names, name by name
abbrev pub names_cmp : Members → Members → Ordering
names_cmp no_members no_members = Equal
names_cmp no_members (member l e ns) = Less
names_cmp (member k d ms) no_members = Greater
names_cmp (member k d ms) (member l e ns) = ordering_then (slice_cmp nat_cmp k l) (names_cmp ms ns)

abbrev mutual
  pub value_cmp : Value → Value → Ordering
  value_cmp (int y) (int z) = int_cmp y z
  value_cmp (text s) (text t) = slice_cmp nat_cmp s t
  value_cmp (list ds) (list es) = items_cmp ds es
  value_cmp (object ms) (object ns) = ordering_then (names_cmp ms ns) (members_cmp ms ns)
  value_cmp v w = nat_cmp (rank v) (rank w)

  pub items_cmp : Items → Items → Ordering
  items_cmp no_items no_items = Equal
  items_cmp no_items (item e es) = Less
  items_cmp (item d ds) no_items = Greater
  items_cmp (item d ds) (item e es) = ordering_then (value_cmp d e) (items_cmp ds es)

  -- the values by their places
  pub members_cmp : Members → Members → Ordering
  members_cmp no_members no_members = Equal
  members_cmp no_members (member l e ns) = Less
  members_cmp (member k d ms) no_members = Greater
  members_cmp (member k d ms) (member l e ns) = ordering_then (value_cmp d e) (members_cmp ms ns)

-- total, antisymmetric and transitive, and equal are only equal values
abbrev pub OrderLaws : Type 0
OrderLaws = IsTotalOrder value_cmp × ((v w : Value) → value_cmp v w ≡ Equal → v ≡ w) × ((v : Value) → value_cmp v v ≡ Equal)
