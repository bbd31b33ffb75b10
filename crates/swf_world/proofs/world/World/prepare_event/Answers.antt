use Rattle.std.proofs.Common.{◌∙◌, ap, sym, subst}
use Rattle.swf_meaning.specs.declared.label.Label.TheVariants.{Event}
use Rattle.swf_world.specs.Refusals.{refused_by}
use Rattle.swf_world.specs.Prepares.{Prepares, IsTelling}
use Rattle.std.specs.Result.{IfOk}
use Rattle.swf_world.proofs.Checks.{event_prepares}
use Rattle.swf_world.proofs.world.World.prepare_event.Goals as goal

pub returns-in-Ok : goal.returns-in-Ok
returns-in-Ok c =
    subst (Prepares c.args.self.now.world (Event c.args.event.now)) (sym c.ready.ensures)
    (event_prepares c.args.self.now.world c.args.event.now c.event_change.result (sym c.tellable.ensures ∙ ap refused_by c.in-Ok.is)
    (subst (λ h. IfOk c.event_change.result (IsTelling h.world.instances c.args.event.now)) c.self.view_is c.event_change.ensures))
