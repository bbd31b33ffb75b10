-- What a split takes of memory, before it changes anything.
use Rattle.std.specs.Prelude.{◌≡◌, ◌<◌, [], Vec, vec_capacity}

-- an empty list that takes a frame
abbrev pub IsSpare : {F A : Type 0} → Vec F A → Type 0
IsSpare v = (v.items ≡ []) × (0 < vec_capacity v)
