use Rattle.crossbeam_channel.specs.Claims.{view, IsSeatAt}
use Rattle.crossbeam_channel.specs.Ends.{receives_on}
use Rattle.swf_scheduler.specs.Worked.{IsWorked}
use Rattle.swf_scheduler.proofs.worker.work_all.Given as goal

abbrev pub invariant-loop : goal.invariant-loop
invariant-loop g l =
    IsSeatAt (receives_on l.from) l.worked.pass
    × IsWorked g.W.Work.gives l.fn.worked.seat.tool l.worked.seat.tool (g.O.Outlet.offered l.worked.seat.outlet) l.worked.taken.items (view l.worked.pass)
