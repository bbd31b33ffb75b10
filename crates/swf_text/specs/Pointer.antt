-- The text of a place in a value (RFC 6901, sections 3 to 5).
use Rattle.std.specs.Prelude.{◌≡◌, ◌==◌, ℕ, List, [], ◌∷◌, Option, Some, None, flat_map, if◌then◌else◌}

-- what stands in a pointer for a character: `~0` for `~`, and `~1` for `/`
abbrev pub pointer_char : ℕ → List ℕ
pointer_char c = if c == 126 then 126 ∷ 48 ∷ [] else (if c == 47 then 126 ∷ 49 ∷ [] else c ∷ [])

-- a name or a position, behind a `/`
abbrev pub pointer_part : List ℕ → List ℕ
pointer_part part = 47 ∷ flat_map pointer_char part

-- the pointer to a place; that of the whole value is the empty text
abbrev pub pointer : List (List ℕ) → List ℕ
pointer place = flat_map pointer_part place

-- the pointer of a place, where one is given
abbrev pub IsPointed : Option (List ℕ) → List (List ℕ) → Type 0
IsPointed None p = Unit {0}
IsPointed (Some t) p = t ≡ pointer p
