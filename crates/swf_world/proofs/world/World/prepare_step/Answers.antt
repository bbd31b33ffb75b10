use Rattle.std.proofs.Common.{◌∙◌, ap, sym, subst}
use Rattle.std.specs.Result.{IfOk}
use Rattle.swf_meaning.specs.declared.label.Label.TheVariants.{Step}
use Rattle.swf_instances.specs.Queued.{CanGoAt}
use Rattle.swf_world.specs.Refusals.{refused_by}
use Rattle.swf_world.specs.Prepares.{Prepares, IsStepping}
use Rattle.swf_world.proofs.Checks.{step_prepares}
use Rattle.swf_world.proofs.world.World.prepare_step.Goals as goal

pub step_change-requires : goal.step_change-requires
step_change-requires c = subst (λ h. CanGoAt h.world.now h.world.instances c.in-Ok.number c.args.strand.now) (sym c.self.view_is) c.in-Ok.ensures.can

pub returns-in-Ok : goal.returns-in-Ok
returns-in-Ok c =
    let w = c.args.self.now.world in
    let n = c.in-Ok.number in
    let strand = c.args.strand.now in
    subst (Prepares w (Step c.args.id.now strand)) (sym c.ready.ensures)
    (step_prepares w c.args.id.now strand n c.step_change.result c.in-Ok.ensures.first (sym c.steppable.ensures.refused ∙ ap refused_by c.in-Ok.is)
    (subst (λ h. IfOk c.step_change.result (IsStepping h.world.now h.world.documents n strand h.world.instances)) c.self.view_is c.step_change.ensures))
