use Rattle.std.proofs.Common.{◌∙◌, ap, sym, subst, arith}
use Rattle.swf_meaning.specs.declared.key.Key.TheVariants.{Document}
use Rattle.swf_runs.specs.After.{is_used, with_document}
use Rattle.swf_world.specs.Kept.{Kept}
use Rattle.swf_world.specs.Parts.{world_of}
use Rattle.swf_world.proofs.Grows.{kept_loaded, loaded_world, not_used_in}
use Rattle.swf_world.proofs.world.World.install_load.Goals as goal

pub add-requires-clause-new : goal.add-requires-clause-new
add-requires-clause-new c =
    c.self.invariant.new.document c.args.key
    (ap (λ k. is_used (Document k) (world_of c.self.inside)) c.requires.suits.named ∙ ap (λ h. is_used (Document c.args.loaded.document.key) h.world) c.self.view_is ∙ c.requires.suits.new)

pub add-requires-2-clause-new : goal.add-requires-2-clause-new
add-requires-2-clause-new c =
    not_used_in (world_of c.self.inside) c.args.self.now.world c.args.used (Document c.args.loaded.document.key) (ap (λ h. h.world) c.self.view_is) c.requires.suits.used_is c.requires.suits.new

pub invariant_of-self : goal.invariant_of-self
invariant_of-self c =
    let w = world_of c.self.inside in
    subst Kept (sym (loaded_world w c.args.loaded.value c.args.loaded.document c.args.used _ _ c.add.ensures c.add-2.ensures c.requires.suits.used_is))
    (kept_loaded w c.args.loaded.value c.args.loaded.document c.self.invariant (omega (arith, c.requires.room, ap (λ h. h.room) c.self.view_is)))

pub returns : goal.returns
returns c =
    loaded_world (world_of c.self.inside) c.args.loaded.value c.args.loaded.document c.args.used _ _ c.add.ensures c.add-2.ensures c.requires.suits.used_is
    ∙ ap (λ h. with_document h.world c.args.loaded.value c.args.loaded.document) c.self.view_is
