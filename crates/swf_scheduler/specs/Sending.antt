-- How a job is put into the queue.
use Rattle.std.specs.Prelude.{◌≡◌, ◌++◌, true, [], ◌∷◌, length}
use Rattle.std.specs.declared.alloc.Global.{Global}
use Rattle.crossbeam_channel.specs.Fifo.{Held}
use Rattle.crossbeam_channel.specs.Claims.{view, IsSeatAt, Pass}
use Rattle.crossbeam_channel.specs.Ends.{sends_on, ruled_capacity}
use Rattle.crossbeam_channel.specs.declared.flavors.array.ruled.Sending.{Sending}
use Rattle.swf_scheduler.specs.declared.rule.Job.{Job}
use Rattle.swf_scheduler.specs.declared.rule.Hand.{Hand}
use Rattle.swf_scheduler.specs.Rule.{hand, most_queued, Queued}
use Rattle.swf_scheduler.specs.Hired.{Ring}

module _ {W : Type 0} (to : Sending (Ring W) Global) (before : Pass (Job W) (Hand W)) where
  -- the pass may give, and the job has the next number
  pub record IsGiver (job : Job W) : Type 0 where
    pub channel : IsSeatAt (sends_on to) before
    pub room : ruled_capacity (sends_on to) ≡ most_queued
    pub gives : (view before).gives ≡ true
    pub next : job.number ≡ length (view before).given

  -- the job is in the queue
  pub record IsGiven (job : Job W) (after : Pass (Job W) (Hand W)) : Type 0 where
    pub channel : IsSeatAt (sends_on to) after
    pub step : view after ≡ hand (view before).parts (view before).gives ((view before).given ++ job.work ∷ []) (view before).taken

  -- nothing was put, and at one moment the queue was full of jobs that were given
  pub record IsRefused (after : Pass (Job W) (Hand W)) : Type 0 where
    pub channel : IsSeatAt (sends_on to) after
    pub same : view after ≡ view before
    pub full : Held most_queued (Queued (view before).given)
