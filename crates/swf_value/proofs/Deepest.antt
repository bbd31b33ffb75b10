-- What nests deepest among what is found.
use Rattle.std.proofs.Common.{◌≡◌, ◌-◌, ◌^◌, min, List, [], ◌∷◌, arith}
use Rattle.serde_json.specs.Data.{Items, no_items, item, Members, no_members, member, items_depth, members_depth}
use Rattle.swf_value.specs.Found.{AreFound, MembersFound, deepest_item, deepest_member}
use Rattle.swf_value.specs.declared.whole.Found.{Found}
use Rattle.swf_value.proofs.Wholes.{Entry}

pub items_found_depth : (ds : Items) (fs : List Found) → AreFound ds fs → deepest_item fs ≡ min (items_depth ds) (2 ^ 32 - 1)
items_found_depth no_items [] h = omega arith
items_found_depth no_items (f ∷ fs) h = absurd h
items_found_depth (item d ds) [] h = absurd h
items_found_depth (item d ds) (f ∷ fs) h = omega (arith, h.0.depth_is, items_found_depth ds fs h.1)

pub members_found_depth : (ms : Members) (es : List Entry) → MembersFound ms es → deepest_member es ≡ min (members_depth ms) (2 ^ 32 - 1)
members_found_depth no_members [] h = omega arith
members_found_depth no_members (e ∷ es) h = absurd h
members_found_depth (member k d ms) [] h = absurd h
members_found_depth (member k d ms) (e ∷ es) h = omega (arith, h.1.depth_is, members_found_depth ms es h.2)
