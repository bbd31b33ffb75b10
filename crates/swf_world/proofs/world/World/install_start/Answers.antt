use Rattle.std.proofs.Common.{◌∙◌, ap, sym, subst, arith}
use Rattle.swf_meaning.specs.declared.key.Key.TheVariants.{Instance}
use Rattle.swf_runs.specs.After.{is_used, with_instance}
use Rattle.swf_world.specs.Kept.{Kept}
use Rattle.swf_world.specs.Parts.{world_of}
use Rattle.swf_world.proofs.Grows.{kept_started, started_world, not_used_in}
use Rattle.swf_world.proofs.world.World.install_start.Goals as goal

pub add-requires-clause-new : goal.add-requires-clause-new
add-requires-clause-new c = c.self.invariant.new.instance c.args.id (ap (λ h. is_used (Instance c.args.id) h.world) c.self.view_is ∙ c.requires.suits.new)

pub add-requires-2-clause-new : goal.add-requires-2-clause-new
add-requires-2-clause-new c = not_used_in (world_of c.self.inside) c.args.self.now.world c.args.used (Instance c.args.id) (ap (λ h. h.world) c.self.view_is) c.requires.suits.used_is c.requires.suits.new

pub invariant_of-self : goal.invariant_of-self
invariant_of-self c =
    let w = world_of c.self.inside in
    subst Kept (sym (started_world w c.args.instance c.args.id c.args.used _ _ _ c.add.ensures.instances c.add.ensures.moment c.add-2.ensures c.requires.suits.used_is c.requires.suits.placed))
    (kept_started w c.args.instance c.self.invariant (omega (arith, c.requires.room, ap (λ h. h.room) c.self.view_is)))

pub returns : goal.returns
returns c =
    started_world (world_of c.self.inside) c.args.instance c.args.id c.args.used _ _ _ c.add.ensures.instances c.add.ensures.moment c.add-2.ensures c.requires.suits.used_is c.requires.suits.placed
    ∙ ap (λ h. with_instance h.world c.args.instance) c.self.view_is
