-- Each value inside a node weighs less than the node.
use Rattle.std.specs.Prelude.{◌+◌, ◌≤◌, max, List, [], ◌∷◌}
use Rattle.std.proofs.Common.{arith}
use denote.Param.Weighed.{most}
use Rattle.swf_value.specs.declared.value.JsonNode.{JsonNode}
use Rattle.swf_value.specs.declared.value.JsonNode.TheVariants.{Null, Bool, Int, Text, List as Listed, Object}
use Rattle.swf_value.specs.declared.value.Member.{Member}
use Rattle.swf_value.specs.declared.list.JsonList.TheDeep.{deep-JsonNode, deep-Member}
use Rattle.swf_value.specs.Node.{node_value, members_of, weight, weight_members}
use Rattle.swf_value.specs.Weight.{weight_map}

-- no member's value is heavier than all of them together
most_members : (ms : List Member) → most deep-Member ms ≤ weight_members (members_of ms) + 1
most_members [] = omega arith
most_members (m ∷ ms) = omega (arith, most_members ms)

pub falls_map : (ms : List Member) → max (most deep-Member ms) 0 ≤ weight_map (members_of ms)
falls_map ms = omega (arith, most_members ms)

pub falls : (n : JsonNode) → max (deep-JsonNode n) 0 ≤ weight (node_value n)
falls Null = omega arith
falls (Bool b) = omega arith
falls (Int z) = omega arith
falls (Text t) = omega arith
falls (Listed v) = omega arith
falls (Object v) = omega arith
