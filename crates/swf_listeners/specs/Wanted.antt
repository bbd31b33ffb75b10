-- What an instance listens for now.
use Rattle.std.specs.Prelude.{◌||◌, ℕ, List, [], Bool, true, false, Option, Some, None, refl, fold}
use Rattle.std.specs.BTreeSet.{insert_key}
use Rattle.std.specs.Cmp.Lexicographic.{slice_cmp}
use Rattle.std.specs.Coded.{Coded, code_by, coded×, coded_ℕ, coded_bool, coded_list}
use Rattle.std.specs.List.{list_any}
use Rattle.std.specs.Ordering.{nat_cmp}
use Rattle.swf_text.specs.Same.{same}

-- the types of the events that it listens for, in ascending order, and whether it listens for some whose type is not told
pub record Wanted : Type 0 where
  pub types : List (List ℕ)
  pub any : Bool

abbrev pub wanted_code : Coded Wanted
wanted_code = code_by (List (List ℕ) × Bool) (coded× (coded_list (coded_list coded_ℕ)) coded_bool) (λ w. (w.types, w.any)) (λ p. record { types = p.0; any = p.1 }) (λ _. refl)

abbrev pub nothing : Wanted
nothing = record { types = []; any = false }

-- one listen more: for a type, or for events whose type is not told
abbrev pub with_listen : Wanted → Option (List ℕ) → Wanted
with_listen w None = record { types = w.types; any = true }
with_listen w (Some t) = record { types = insert_key (slice_cmp nat_cmp) w.types t; any = w.any }

-- what all these listens want
abbrev pub wanted_of : List (Option (List ℕ)) → Wanted
wanted_of listens = fold with_listen nothing listens

abbrev pub has : List ℕ → Wanted → Bool
has t w = list_any (same t) w.types

-- it may take an event of that type
abbrev pub wants : List ℕ → Wanted → Bool
wants t w = w.any || has t w
