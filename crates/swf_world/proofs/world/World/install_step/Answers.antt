use Rattle.std.proofs.Common.{◌≡◌, ◌∙◌, ap, sym, subst, Some, option_map, slice_get, arith}
use Rattle.std.proofs.lemmas.Option.{slice_get-map}
use Rattle.std.specs.List.{AllByRecursion}
use Rattle.swf_tasks.specs.Prepares.{applied}
use Rattle.swf_instances.specs.Offers.{IsHeardFrom, ids, put_all}
use Rattle.swf_instances.proofs.OfferLemmas.{ids_all, ids_put}
use Rattle.swf_instances.proofs.TakeLemmas.{same_id, take_put}
use Rattle.swf_world.specs.Parts.{world_of}
use Rattle.swf_world.proofs.Grows.{kept_changed, kept_counted}
use Rattle.swf_world.proofs.world.World.install_step.Goals as goal

pub hear-requires : goal.hear-requires
hear-requires c = record { from = subst (λ h. AllByRecursion (IsHeardFrom h.world.instances) c.args.heard.items) (sym c.self.view_is) c.requires.suits.from }

pub take-emitted-requires : goal.take-emitted-requires
take-emitted-requires c =
    let n = c.args.number in
    let r = c.requires.suits.ready in (
      r.instance,
      ap (λ is. slice_get is n) c.hear.ensures.instances ∙ ap (λ h. slice_get (put_all c.args.heard.items h.world.instances) n) c.self.view_is ∙ c.requires.suits.apart ∙ r.there,
      r.fits,
    )

pub invariant_of-self : goal.invariant_of-self
invariant_of-self c =
    let w = world_of c.self.inside in
    let js = c.hear.new.self.instances in
    let ks = c.take-emitted.new.self.instances in
    let n = c.args.number in
    let r = c.requires.suits.ready in
    let p = c.args.prepared in
    let j = applied p r.instance in
    let from = subst (λ h. AllByRecursion (IsHeardFrom h.world.instances) c.args.heard.items) (sym c.self.view_is) c.requires.suits.from in
    let there : slice_get js n ≡ Some r.instance =
    ap (λ is. slice_get is n) c.hear.ensures.instances ∙ ap (λ h. slice_get (put_all c.args.heard.items h.world.instances) n) c.self.view_is ∙ c.requires.suits.apart ∙ r.there in
    let own : slice_get (ids js) n ≡ Some j.id = slice_get-map (λ i. i.id) js n ∙ ap (option_map (λ i. i.id)) there ∙ ap (λ id. Some id) (sym (same_id p r.instance)) in
    let same : ids ks ≡ ids w.instances =
    ap ids (c.take-emitted.ensures.instances ∙ take_put n p js r.instance there) ∙ ids_put js n j own ∙ ap ids c.hear.ensures.instances ∙ ids_all c.args.heard.items w.instances from in
    rw (c.take-emitted.ensures.moment, c.hear.ensures.moment)
    (kept_counted (record w { instances = ks }) c.put_out.new.outbox.items (kept_changed w ks c.self.invariant same) (omega (arith, c.requires.room, ap (λ h. h.room) c.self.view_is)))
