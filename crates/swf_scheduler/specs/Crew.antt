-- What stays true of a crew.
use Rattle.std.specs.Prelude.{◌≡◌, ℕ, ◌+◌, ◌≤◌, true, count_by, List, [], length, All}
use Rattle.crossbeam_channel.specs.Claims.{view, IsSeatAt, Pass}
use Rattle.crossbeam_channel.specs.Ends.{ruled_capacity}
use Rattle.swf_scheduler.specs.declared.rule.Job.{Job}
use Rattle.swf_scheduler.specs.declared.rule.Hand.{Hand}
use Rattle.swf_scheduler.specs.declared.hired.Hired.{Hired}
use Rattle.swf_scheduler.specs.Rule.{all_parts, most_queued, most_seats}
use Rattle.swf_scheduler.specs.Hired.{Ring, IsOn, is_working}

-- its pass is the giver's and took nothing, and each seat has one of the other parts; the next number is how many jobs were given; and workers
-- that were not started are not counted
pub record IsCrew {W O Tool Done : Type 0} (gives : W → Tool → Tool → Done → Type 0) (offered : O → ℕ) (to from : Ring W) (pass : Pass (Job W) (Hand W)) (hired : List (Hired W O Tool Done)) (next started : ℕ) : Type 0 where
  pub channel : IsSeatAt to pass
  pub same : from ≡ to
  pub room : ruled_capacity to ≡ most_queued
  pub parts : (view pass).parts + length hired ≡ all_parts
  pub few : length hired ≤ most_seats
  pub gives_jobs : (view pass).gives ≡ true
  pub took : (view pass).taken ≡ []
  pub numbered : next ≡ length (view pass).given
  pub each : All (IsOn gives offered to) hired
  pub counted : started ≡ count_by is_working hired
