-- The alarms of instances: the moment of each number, and how many more fit.
use Rattle.std.specs.Prelude.{◌≡◌, ◌≤◌, ◌<◌, ◌+◌, ◌*◌, ◌/◌, ◌++◌, ◌∷◌, [], ℕ, zero, suc, List, Bool, false, refl, length, min, nat_le, slice_index_or, Option, Some, None}
use Rattle.std.specs.Coded.{Coded, code_by, coded×, coded_ℕ, coded_list, coded_option}

pub record Alarms : Type 0 where
  pub moments : List (Option ℕ)
  pub room : ℕ

abbrev pub alarms_code : Coded Alarms
alarms_code = code_by (List (Option ℕ) × ℕ) (coded× (coded_list (coded_option coded_ℕ)) coded_ℕ) (λ a. (a.moments, a.room)) (λ p. record { moments = p.0; room = p.1 }) (λ _. refl)

-- there is an alarm, and it is no later than the moment
abbrev pub is_by : ℕ → Option ℕ → Bool
is_by moment None = false
is_by moment (Some alarm) = nat_le alarm moment

-- the earlier of two, where none is later than any
abbrev pub sooner : Option ℕ → Option ℕ → Option ℕ
sooner None b = b
sooner (Some a) None = Some a
sooner (Some a) (Some b) = Some (min a b)

-- the alarm of that number is no later than the moment
abbrev pub is_due : ℕ → List (Option ℕ) → ℕ → Bool
is_due moment alarms n = is_by moment (slice_index_or alarms n None)

-- the node of a place: the inner ones stand first, from place 1 on, and the alarms are the leaves behind them
abbrev pub node : List (Option ℕ) → List (Option ℕ) → ℕ → Option ℕ
node inner alarms place = slice_index_or (inner ++ alarms) place None

-- each inner node has the sooner of the two at twice its place
pub record IsTournament (inner alarms : List (Option ℕ)) : Type 0 where
  pub wide : length alarms ≤ length inner
  pub won : (k : ℕ) → 0 < k → k < length inner → node inner alarms k ≡ sooner (node inner alarms (2 * k)) (node inner alarms (2 * k + 1))

-- the place so many levels above
abbrev pub above : ℕ → ℕ → ℕ
above zero place = place
above (suc levels) place = above levels (place / 2)
