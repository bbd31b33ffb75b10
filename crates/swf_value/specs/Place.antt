-- Where a name stands among ascending members.
use Rattle.std.specs.Prelude.{◌≡◌, ◌≤◌, ◌<◌, ℕ, List, length, Result, MatchResult, slice_index_or, slice_set, Some, None}
use Rattle.std.specs.List.{insert}
use Rattle.swf_value.specs.Value.{Value}
use Rattle.swf_value.specs.Members.{at, put}
use Rattle.swf_value.specs.Node.{members_of}
use Rattle.swf_value.specs.declared.value.Member.{Member}

-- the member at this place has the name
abbrev pub StandsAt : List ℕ → List Member → ℕ → Type 0
StandsAt k ms i = (i < length ms) × ((m : Member) → (slice_index_or ms i m).name ≡ k) × ((m : Member) → at k (members_of ms) ≡ Some (slice_index_or ms i m).value)
    × ((v : Value) → put k v (members_of ms) ≡ members_of (slice_set ms i (record { name = k; value = v })))

-- no member has the name, and one of it would stand at this place
abbrev pub WouldStandAt : List ℕ → List Member → ℕ → Type 0
WouldStandAt k ms i = (i ≤ length ms) × (at k (members_of ms) ≡ None)
    × ((v : Value) → put k v (members_of ms) ≡ members_of (insert ms i (record { name = k; value = v })))

abbrev pub IsPlaceOf : List ℕ → List Member → Result ℕ ℕ → Type 0
IsPlaceOf k ms r = MatchResult r (StandsAt k ms) (WouldStandAt k ms)
