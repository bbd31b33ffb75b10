-- The rule of the channel.
use Rattle.std.specs.Prelude.{◌≡◌, ℕ, ◌+◌, ◌≤◌, Bool, true, List, [], ◌∷◌, map, length, nat_lt, ◌==◌, if◌then◌else◌, All, slice_get, Some}
use mathlib.Core.Option.{some}
use lib.ListN.{get_elem?}
use Rattle.swf_scheduler.specs.declared.rule.Job.{Job}
use Rattle.swf_scheduler.specs.declared.rule.Hand.{Hand}

-- how many seats a crew has at most
abbrev pub most_seats : ℕ
most_seats = 8

-- how many jobs the queue has room for
abbrev pub most_queued : ℕ
most_queued = 64

-- the parts of the right to know the whole: one for each seat, and one of the crew's own
abbrev pub all_parts : ℕ
all_parts = 9

-- what a pass knows
abbrev pub hand : {W : Type 0} → ℕ → Bool → List W → List (Job W) → Hand W
hand parts gives given taken = record { parts = parts; gives = gives; given = given; taken = taken }

-- f of each, added up
abbrev pub total : {V : Type 0} → (V → ℕ) → List V → ℕ
total f [] = 0
total f (v ∷ vs) = f v + total f vs

-- how often x stands in the list
abbrev pub times : ℕ → List ℕ → ℕ
times x [] = 0
times x (y ∷ ys) = (if y == x then 1 else 0) + times x ys

-- 1 for a number below n, and else 0
abbrev pub once_below : ℕ → ℕ → ℕ
once_below x n = if nat_lt x n then 1 else 0

-- the numbers of jobs
abbrev pub numbers : {W : Type 0} → List (Job W) → List ℕ
numbers jobs = map (λ j. j.number) jobs

-- the job's work is the one that was given under its number
abbrev pub IsRight : {W : Type 0} → List W → Job W → Type 0
IsRight given job = slice_get given job.number ≡ Some job.work

-- what a queue holds: jobs that were given, each number at most once
pub record Queued {W : Type 0} (given : List W) (items : List (Job W)) : Type 0 where
  pub right : All (IsRight given) items
  pub once : (x : ℕ) → times x (numbers items) ≤ once_below x (length given)

-- what was taken and what the queue holds are the numbers given, each once
pub record Totals {W : Type 0} (v : Hand W) (items : List (Job W)) : Type 0 where
  pub once : (x : ℕ) → times x (numbers v.taken) + times x (numbers items) ≡ once_below x (length v.given)
  pub right : All (IsRight v.given) v.taken
  pub queued : All (IsRight v.given) items
  pub counted : length v.taken + length items ≡ length v.given
  pub room : length items ≤ most_queued

-- of one pass: it gives only if it is the giver's, it took only jobs that were given, and without a part it took none
pub record Fits {W : Type 0} (giver : ℕ) (given : List W) (port : ℕ) (v : Hand W) : Type 0 where
  pub gives : v.gives ≡ true → (port ≡ giver) × (v.given ≡ given)
  pub right : All (IsRight given) v.taken
  pub empty : v.parts ≡ 0 → v.taken ≡ []

-- each number below the next one is in the queue, or was taken under one pass, once
pub record Kept {W : Type 0} (items : List (Job W)) (views : List (Hand W)) : Type 0 where
  pub giver : ℕ
  pub given : List W
  pub parts : total (λ v. v.parts) views ≡ all_parts
  pub once : (x : ℕ) → total (λ v. times x (numbers v.taken)) views + times x (numbers items) ≡ once_below x (length given)
  pub counted : total (λ v. length v.taken) views + length items ≡ length given
  pub room : length items ≤ most_queued
  pub right : All (IsRight given) items
  pub each : (port : ℕ) (v : Hand W) → get_elem? views port ≡ some v → Fits giver given port v
