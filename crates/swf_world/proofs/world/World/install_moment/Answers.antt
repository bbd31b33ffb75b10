use Rattle.std.proofs.Common.{ap, arith}
use Rattle.swf_meaning.specs.declared.key.Key.TheVariants.{Moment}
use Rattle.swf_registry.proofs.Lookups.{not_used}
use Rattle.swf_world.specs.Parts.{world_of}
use Rattle.swf_world.proofs.Grows.{kept_reached}
use Rattle.swf_world.proofs.world.World.install_moment.Goals as goal

pub add-requires-clause-new : goal.add-requires-clause-new
add-requires-clause-new c =
    not_used (Moment c.args.milliseconds) c.self.inside.used.keys (c.self.invariant.new.moment c.args.milliseconds (omega (arith, c.requires.suits.later, ap (λ h. h.world.now) c.self.view_is)))

pub invariant_of-self : goal.invariant_of-self
invariant_of-self c =
    let w = world_of c.self.inside in
    rw (c.reach.ensures.instances, c.reach.ensures.moment, c.new.ensures, c.add.ensures)
    (kept_reached w c.args.milliseconds c.self.invariant (omega (arith, c.requires.suits.later, ap (λ h. h.world.now) c.self.view_is)) (omega (arith, c.requires.room, ap (λ h. h.room) c.self.view_is)))
