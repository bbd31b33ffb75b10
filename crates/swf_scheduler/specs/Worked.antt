-- What a worker did.
use Rattle.std.specs.Prelude.{◌≡◌, ℕ, List, [], ◌∷◌, length, slice_get, Some, false}
use Rattle.swf_scheduler.specs.declared.rule.Job.{Job}
use Rattle.swf_scheduler.specs.declared.rule.Hand.{Hand}
use Rattle.swf_scheduler.specs.Rule.{hand, numbers}

module _ {W Tool Done : Type 0} (gives : W → Tool → Tool → Done → Type 0) where
  -- the jobs, with these results, lead from the tool t to the tool u
  abbrev pub Works : List (Job W) → List Done → Tool → Tool → Type 0
  Works [] [] t u = t ≡ u
  Works [] (d ∷ ds) t u = ⊥
  Works (job ∷ jobs) [] t u = ⊥
  Works (job ∷ jobs) (d ∷ ds) t u = (m : Tool) × gives job.work t m d × Works jobs ds m u

  -- the same of the works that were given under these numbers
  abbrev pub Leads : List W → List ℕ → List Done → Tool → Tool → Type 0
  Leads given [] [] t u = t ≡ u
  Leads given [] (d ∷ ds) t u = ⊥
  Leads given (n ∷ ns) [] t u = ⊥
  Leads given (n ∷ ns) (d ∷ ds) t u = (w : W) × (m : Tool) × (slice_get given n ≡ Some w) × gives w t m d × Leads given ns ds m u

  -- a worker took these numbers and nothing else, and offered one result for each
  pub record IsWorked (before after : Tool) (offered : ℕ) (taken : List ℕ) (v : Hand W) : Type 0 where
    pub jobs : List (Job W)
    pub results : List Done
    pub knows : v ≡ hand 1 false [] jobs
    pub listed : numbers jobs ≡ taken
    pub works : Works jobs results before after
    pub counted : offered ≡ length taken
