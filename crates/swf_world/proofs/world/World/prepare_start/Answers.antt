use Rattle.std.proofs.Common.{◌∙◌, ap, sym, subst}
use Rattle.swf_meaning.specs.declared.label.Label.TheVariants.{Start}
use Rattle.swf_world.specs.Refusals.{refused_by}
use Rattle.swf_world.specs.Prepares.{Prepares}
use Rattle.swf_world.proofs.Checks.{start_prepares}
use Rattle.swf_world.proofs.world.World.prepare_start.Goals as goal

pub returns-in-Ok : goal.returns-in-Ok
returns-in-Ok c =
    subst (Prepares c.args.self.now.world (Start c.args.id.now c.args.key.now c.args.input.now)) (sym c.ready.ensures)
    (start_prepares c.args.self.now.world c.args.id.now c.args.key.now c.args.input.now c.in-Ok.document.now c.now-now.result c.start_change.result c.now-now.ensures c.in-Ok.ensures.found
    (sym c.startable.ensures.refused ∙ ap refused_by c.in-Ok.is) c.start_change.ensures)
