-- How the workers' passes and the rest of the queue are gathered.
use Rattle.std.specs.Prelude.{◌≡◌, ℕ, ◌+◌, List, [], ◌∷◌, ◌++◌, length, All, slice_get, Some}
use Rattle.std.specs.declared.alloc.Global.{Global}
use Rattle.std.specs.declared.vec.Vec.{Vec}
use Rattle.swf_scheduler.specs.declared.rule.Job.{Job}
use Rattle.swf_scheduler.specs.declared.rule.Hand.{Hand}
use Rattle.swf_scheduler.specs.declared.work.Seat.{Seat}
use Rattle.swf_scheduler.specs.Closed.{left_numbers}
use Rattle.swf_scheduler.specs.Rule.{times, once_below, numbers, IsRight}
use Rattle.swf_scheduler.specs.Worked.{Works}

module _ {W O Tool Done : Type 0} (gives : W → Tool → Tool → Done → Type 0) (offered : O → ℕ) where
  -- the jobs are those that the workers took, one worker after another
  abbrev pub Hands : List Tool → List (Seat W O Tool Done) → List (Vec ℕ Global) → List (Job W) → Type 0
  Hands [] [] [] jobs = jobs ≡ []
  Hands [] [] (n ∷ ns) jobs = ⊥
  Hands [] (s ∷ ss) ns jobs = ⊥
  Hands (t ∷ ts) [] ns jobs = ⊥
  Hands (t ∷ ts) (s ∷ ss) [] jobs = ⊥
  Hands (t ∷ ts) (s ∷ ss) (n ∷ ns) jobs =
      (mine : List (Job W)) × (others : List (Job W)) × (results : List Done) × (jobs ≡ mine ++ others) × (numbers mine ≡ n.items) × Works gives mine results t s.tool × (offered s.outlet ≡ length n.items) × Hands ts ss ns others

  -- the crew's pass with those of the workers joined
  pub record Gathered (tools : List Tool) (seats : List (Seat W O Tool Done)) (taken : List (Vec ℕ Global)) (before after : Hand W) : Type 0 where
    pub parts : after.parts ≡ before.parts + length tools
    pub gives_jobs : after.gives ≡ before.gives
    pub given : after.given ≡ before.given
    pub hands : Hands tools seats taken after.taken

-- what a pass with every part knows of all numbers: they were taken or are left, each once
pub record IsDrained {W : Type 0} (v : Hand W) (left : List (ℕ × W)) : Type 0 where
  pub once : (x : ℕ) → times x (numbers v.taken) + times x (left_numbers left) ≡ once_below x (length v.given)
  pub took : All (IsRight v.given) v.taken
  pub left_right : All (λ l. slice_get v.given l.0 ≡ Some l.1) left
