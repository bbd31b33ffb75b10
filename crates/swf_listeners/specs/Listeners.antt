-- Who may take an event.
use Rattle.std.specs.Prelude.{◌≡◌, ◌<◌, ◌++◌, ℕ, zero, suc, List, [], ◌∷◌, Bool, true, if◌then◌else◌, refl, length, slice_index_or, unwrap_or}
use Rattle.std.specs.Coded.{Coded, code_by, coded×, coded_ℕ, coded_list}
use Rattle.std.specs.Map.{lookup}
use Rattle.swf_text.specs.Same.{same}
use Rattle.swf_listeners.specs.Wanted.{Wanted, wanted_code, nothing, has, wants}

-- what each instance wants by its number, up to which number an instance may want a type, and how many instances more fit
pub record Listeners : Type 0 where
  pub wanted : List Wanted
  pub places : List (List ℕ × ℕ)
  pub room : ℕ

abbrev pub listeners_code : Coded Listeners
listeners_code = code_by (List Wanted × (List (List ℕ × ℕ) × ℕ)) (coded× (coded_list wanted_code) (coded× (coded_list (coded× (coded_list coded_ℕ) coded_ℕ)) coded_ℕ)) (λ l. (l.wanted, (l.places, l.room)))
    (λ p. record { wanted = p.0; places = p.1.0; room = p.1.1 }) (λ _. refl)

abbrev pub wanted_by : List Wanted → ℕ → Wanted
wanted_by all n = slice_index_or all n nothing

-- the numbers below this one that pass the test, in ascending order
abbrev pub numbers_where : (ℕ → Bool) → ℕ → List ℕ
numbers_where test zero = []
numbers_where test (suc n) = numbers_where test n ++ (if test n then n ∷ [] else [])

-- who may take an event of that type
abbrev pub who : List ℕ → List Wanted → List ℕ
who t all = numbers_where (λ n. wants t (wanted_by all n)) (length all)

-- for how many numbers there is a place at a type
abbrev pub places_of : List (List ℕ × ℕ) → List ℕ → ℕ
places_of places t = unwrap_or (lookup (same t) places) 0

-- there is a place for that number at each type that is wanted
pub record Fits (places : List (List ℕ × ℕ)) (number : ℕ) (wanted : Wanted) : Type 0 where
  pub at : (t : List ℕ) → has t wanted ≡ true → number < places_of places t
