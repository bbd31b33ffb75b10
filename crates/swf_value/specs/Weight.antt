-- A number for each value that is greater than that of each value inside.
use Rattle.std.specs.Prelude.{◌+◌, ◌≤◌, ℕ, max, List, [], ◌∷◌}
use Rattle.std.proofs.Common.{arith}
use denote.Param.Weighed.{most}
use Rattle.swf_value.specs.Value.{Value, null, boolean, int, text, list, object, Items, no_items, item, Members, no_members, member}

abbrev pub items_of : List Value → Items
items_of [] = no_items
items_of (d ∷ ds) = item d (items_of ds)

-- a number that is greater than that of each value inside
abbrev mutual
  pub weight : Value → ℕ
  weight null = 1
  weight (boolean b) = 1
  weight (int z) = 1
  weight (text t) = 1
  weight (list ds) = 4 + weight_items ds
  weight (object ms) = 4 + weight_members ms

  pub weight_items : Items → ℕ
  weight_items no_items = 0
  weight_items (item d ds) = weight d + weight_items ds

  pub weight_members : Members → ℕ
  weight_members no_members = 0
  weight_members (member k d ms) = weight d + weight_members ms

-- the same of a list of values
abbrev pub weight_list : List Value → ℕ
weight_list ds = 2 + weight_items (items_of ds)

-- the same of members
abbrev pub weight_map : Members → ℕ
weight_map ms = 2 + weight_members ms

pub falls_list : (ds : List Value) → max (most (λ d. weight d + 1) ds) 0 ≤ weight_list ds
falls_list [] = omega arith
falls_list (d ∷ ds) = omega (arith, falls_list ds)
