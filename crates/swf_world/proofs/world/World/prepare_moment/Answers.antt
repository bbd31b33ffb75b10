use Rattle.std.proofs.Common.{◌∙◌, ap, sym, subst, Ok, arith}
use Rattle.swf_meaning.specs.declared.label.Label.TheVariants.{Moment}
use Rattle.swf_world.specs.declared.change.ChangeKind.TheVariants.{Moment as MomentKind}
use Rattle.swf_world.specs.Refusals.{refused_by}
use Rattle.swf_world.specs.Prepares.{Prepares, untold}
use Rattle.swf_world.proofs.Checks.{moment_prepares}
use Rattle.swf_world.proofs.world.World.prepare_moment.Goals as goal

pub returns-in-Ok : goal.returns-in-Ok
returns-in-Ok c =
    subst (λ x. Prepares c.args.self.now.world (Moment c.args.moment) (Ok x)) (sym c.untold.ensures)
    (subst (λ m. Prepares c.args.self.now.world (Moment c.args.moment) (Ok (untold (MomentKind m)))) (sym c.milliseconds.ensures.value)
    (moment_prepares c.args.self.now.world c.args.moment (omega (arith, c.milliseconds.ensures.within, c.milliseconds.ensures.value)) (sym c.reachable.ensures ∙ ap refused_by c.in-Ok.is)))
