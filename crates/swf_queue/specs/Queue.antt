-- The queue of instances: the numbers in it, for how many instances it is, and how many more fit.
use Rattle.std.specs.Prelude.{◌≡◌, ◌≤◌, ◌==◌, ◌++◌, ◌∷◌, if◌then◌else◌, [], ℕ, List, Bool, false, refl, length, nat_eq, slice_index_or}
use Rattle.std.specs.Coded.{Coded, code_by, coded×, coded_ℕ, coded_list}
use Rattle.std.specs.List.{list_any, IsDistinct}

pub record Queue : Type 0 where
  pub numbers : List ℕ
  pub count : ℕ
  pub room : ℕ

abbrev pub queue_code : Coded Queue
queue_code = code_by (List ℕ × (ℕ × ℕ)) (coded× (coded_list coded_ℕ) (coded× coded_ℕ coded_ℕ)) (λ l. (l.numbers, (l.count, l.room))) (λ p. record { numbers = p.0; count = p.1.0; room = p.1.1 }) (λ _. refl)

abbrev pub is_among : ℕ → List ℕ → Bool
is_among n ns = list_any (λ m. n == m) ns

-- with the number behind all others, where it does not stand there
abbrev pub put : ℕ → List ℕ → List ℕ
put n ns = if is_among n ns then ns else ns ++ n ∷ []

-- no number stands there twice, a number stands there where its flag is set, and the queue has a place for each number
pub record AreFlagged (queue : List ℕ) (flags : List Bool) (places : ℕ) : Type 0 where
  pub distinct : IsDistinct nat_eq queue
  pub there : (n : ℕ) → is_among n queue ≡ slice_index_or flags n false
  pub enough : length flags ≤ places
