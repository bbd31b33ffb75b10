-- The items of a list, and the members of an object by their names.
use Rattle.std.specs.Prelude.{◌==◌, ℕ, List, [], ◌∷◌, Option, Some, None, if◌then◌else◌}
use Rattle.std.specs.Ordering.{nat_cmp}
use Rattle.std.specs.declared.cmp.Ordering.{Ordering}
use Rattle.std.specs.declared.cmp.Ordering.TheVariants.{Less, Equal, Greater}
use Rattle.std.specs.Cmp.Lexicographic.{pointwise, slice_cmp}
use Rattle.swf_value.specs.Value.{Value, null, boolean, int, text, list, object, Items, no_items, item, Members, no_members, member}

-- the value under a name
abbrev pub at : List ℕ → Members → Option Value
at k no_members = None
at k (member l d ms) = if pointwise ◌==◌ k l then Some d else at k ms

-- the value's member of a name; none where the value is no object
abbrev pub member_at : List ℕ → Value → Option Value
member_at k null = None
member_at k (boolean b) = None
member_at k (int z) = None
member_at k (text t) = None
member_at k (list ds) = None
member_at k (object ms) = at k ms

-- the first at `Less`, the second at `Equal` and the third at `Greater`
abbrev pub by_order : Ordering → Members → Members → Members → Members
by_order Less ms ns os = ms
by_order Equal ms ns os = ns
by_order Greater ms ns os = os

-- ascending members with one more, which replaces one of the same name
abbrev pub put : List ℕ → Value → Members → Members
put k v no_members = member k v no_members
put k v (member l d ms) = by_order (slice_cmp nat_cmp k l) (member k v (member l d ms)) (member k v ms) (member l d (put k v ms))

-- a list's items
abbrev pub values_of : Items → List Value
values_of no_items = []
values_of (item d ds) = d ∷ values_of ds

-- the names of an object, in ascending order
abbrev pub member_names : Members → List (List ℕ)
member_names no_members = []
member_names (member k d ms) = k ∷ member_names ms

-- the values of an object by ascending name
abbrev pub member_values : Members → List Value
member_values no_members = []
member_values (member k d ms) = d ∷ member_values ms
