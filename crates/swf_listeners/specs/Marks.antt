-- For each type, whether the instance of a number wants it.
use Rattle.std.specs.Prelude.{◌≡◌, ℕ, List, [], Bool, false, length, map, slice_index_or}
use Rattle.std.specs.Option.{option_map_or}
use Rattle.indexmap.specs.IndexMap.{get}
use Rattle.swf_text.specs.Same.{same}
use Rattle.swf_listeners.specs.Wanted.{Wanted, has}
use Rattle.swf_listeners.specs.Listeners.{wanted_by}
use Rattle.swf_listeners.specs.declared.marks.Marks.{Marks}

-- the flags of a type, by number; past them no instance wants it
abbrev pub flags_of : Marks → List ℕ → List Bool
flags_of m t = option_map_or (λ v. v.items) (get same m.flags t) []

-- for how many numbers each type has a flag
abbrev pub places_in : Marks → List (List ℕ × ℕ)
places_in m = map (λ e. (e.0, length e.1.items)) m.flags.entries

-- the flags say what each instance wants
pub record AreMarked (all : List Wanted) (marks : Marks) (untold : List Bool) : Type 0 where
  pub types : (t : List ℕ) (n : ℕ) → slice_index_or (flags_of marks t) n false ≡ has t (wanted_by all n)
  pub any : untold ≡ map (λ w. w.any) all
