use Rattle.std.proofs.Common.{◌≡◌, ◌∙◌, ap, sym, subst, refl, arith}
use Rattle.std.specs.List.{AllByRecursion}
use Rattle.swf_instances.specs.Offers.{IsHeardFrom, ids}
use Rattle.swf_instances.proofs.OfferLemmas.{ids_all}
use Rattle.swf_world.specs.Parts.{world_of}
use Rattle.swf_world.proofs.Grows.{kept_changed, kept_told, not_used_in}
use Rattle.swf_world.proofs.world.World.install_event.Goals as goal

pub hear-requires : goal.hear-requires
hear-requires c = record { from = subst (λ h. AllByRecursion (IsHeardFrom h.world.instances) c.args.heard.items) (sym c.self.view_is) c.requires.suits.from }

pub add-requires-clause-new : goal.add-requires-clause-new
add-requires-clause-new c = not_used_in (world_of c.self.inside) c.args.self.now.world c.args.used c.args.used (ap (λ h. h.world) c.self.view_is) refl c.requires.suits.new

pub invariant_of-self : goal.invariant_of-self
invariant_of-self c =
    let w = world_of c.self.inside in
    let js = c.hear.new.self.instances in
    let from = subst (λ h. AllByRecursion (IsHeardFrom h.world.instances) c.args.heard.items) (sym c.self.view_is) c.requires.suits.from in
    let same : ids js ≡ ids w.instances = ap ids c.hear.ensures.instances ∙ ids_all c.args.heard.items w.instances from in
    rw (c.hear.ensures.moment, c.add.ensures)
    (kept_told (record w { instances = js }) c.args.used c.requires.suits.source c.requires.suits.id (kept_changed w js c.self.invariant same) c.requires.suits.used_is (omega (arith, c.requires.room, ap (λ h. h.room) c.self.view_is)))
