-- The value that one level of a `Json` stands for.
use Rattle.std.specs.Prelude.{◌≡◌, ◌-◌, ◌^◌, ℕ, min, List, [], ◌∷◌}
use Rattle.swf_value.specs.Value.{Value, null, boolean, int, text, list, object, Members, no_members, member, IsLevel, depth}
use Rattle.swf_value.specs.declared.value.JsonNode.{JsonNode}
use Rattle.swf_value.specs.declared.value.JsonNode.TheVariants.{Null, Bool, Int, Text, List as Listed, Object}
use Rattle.swf_value.specs.declared.value.Member.{Member}
use Rattle.swf_value.specs.Size.{size}
pub use Rattle.swf_value.specs.Weight.{items_of, weight, weight_items, weight_members}

abbrev pub members_of : List Member → Members
members_of [] = no_members
members_of (m ∷ ms) = member m.name m.value (members_of ms)

abbrev pub node_value : JsonNode → Value
node_value Null = null
node_value (Bool b) = boolean b
node_value (Int z) = int z
node_value (Text t) = text t
node_value (Listed v) = list (items_of v)
node_value (Object v) = object v

-- what a `Json` keeps of the value that it stands for: its level, and its depth and its size, each as a `u32`
pub record IsKept (deep large : ℕ) (v : Value) : Type 0 where
  pub level : IsLevel v
  pub depth_is : deep ≡ min (depth v) (2 ^ 32 - 1)
  pub size_is : large ≡ min (size v) (2 ^ 32 - 1)
