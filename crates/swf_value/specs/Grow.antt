-- What one more item or member makes of a value.
use Rattle.std.specs.Prelude.{ℕ, List}
use Rattle.swf_value.specs.Members.{put}
use Rattle.swf_value.specs.Value.{Value, null, boolean, int, text, list, object, Items, no_items, item}

abbrev pub IsList : Value → Type 0
IsList null = ⊥
IsList (boolean b) = ⊥
IsList (int z) = ⊥
IsList (text t) = ⊥
IsList (list ds) = Unit {0}
IsList (object ms) = ⊥

abbrev pub IsObject : Value → Type 0
IsObject null = ⊥
IsObject (boolean b) = ⊥
IsObject (int z) = ⊥
IsObject (text t) = ⊥
IsObject (list ds) = ⊥
IsObject (object ms) = Unit {0}

-- the items with one more at the end
abbrev pub and_item : Items → Value → Items
and_item no_items v = item v no_items
and_item (item d ds) v = item d (and_item ds v)

-- a list with one more item at its end
abbrev pub with_item : Value → Value → Value
with_item (list ds) v = list (and_item ds v)
with_item w v = w

-- an object with one more member, which replaces one of the same name
abbrev pub with_put : Value → List ℕ → Value → Value
with_put (object ms) k v = object (put k v ms)
with_put w k v = w
