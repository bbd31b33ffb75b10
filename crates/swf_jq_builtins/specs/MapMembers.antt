-- The members that the entries of a map are.
use Rattle.std.specs.Prelude.{ℕ, List, [], ◌∷◌}
use Rattle.swf_value.specs.Value.{Value, Members, no_members, member}

abbrev pub entries_members : List (List ℕ × Value) → Members
entries_members [] = no_members
entries_members (e ∷ es) = member e.0 e.1 (entries_members es)
