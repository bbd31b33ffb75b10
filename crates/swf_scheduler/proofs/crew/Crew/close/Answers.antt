use Rattle.std.proofs.Common.{refl, subst}
use Rattle.swf_scheduler.specs.Gathering.{IsDrained}
use Rattle.swf_scheduler.proofs.Steps.{totals}
use Rattle.swf_scheduler.proofs.Closings.{closes}
use Rattle.swf_scheduler.proofs.crew.Crew.close.Goals as goal

pub learn_as-requires-clause-rule : goal.learn_as-requires-clause-rule
learn_as-requires-clause-rule g c items views k at all may = totals _ _ all may items views k at

pub returns-clause-closed : goal.returns-clause-closed
returns-clause-closed g c = rw (← c.self.view_is)
    (closes g.W.Work.gives g.O.Outlet.offered _ _ _ _ _ _ refl c.gather.ensures.gathered (subst (λ v. IsDrained v c.drain.new.left.items) c.learn_as.ensures.channel.2 c.drain.ensures))
