use Rattle.std.proofs.Common.{◌≤◌, vec_capacity}
use Rattle.crossbeam_channel.specs.Claims.{view, IsSeatAt}
use Rattle.crossbeam_channel.specs.Ends.{receives_on}
use Rattle.swf_scheduler.specs.Rule.{most_queued}
use Rattle.swf_scheduler.proofs.Closings.{Draining}
use Rattle.swf_scheduler.proofs.closing.drain.Given as goal

abbrev pub invariant-loop : goal.invariant-loop
invariant-loop g l = IsSeatAt (receives_on l.from) l.pass × Draining (view l.initial.pass) (view l.pass) l.left.items × (most_queued ≤ vec_capacity l.left)
