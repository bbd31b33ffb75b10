use Rattle.std.proofs.Common.{◌≡◌, ◌∙◌, ap, sym, subst, refl, arith}
use Rattle.swf_instances.specs.Offers.{ids}
use Rattle.swf_instances.specs.Replies.{IsOpenAt}
use Rattle.swf_instances.proofs.ReplyLemmas.{ids_replied}
use Rattle.swf_meaning.specs.declared.key.Key.TheVariants as keys
use Rattle.swf_world.specs.Parts.{world_of}
use Rattle.swf_world.proofs.Grows.{kept_changed, kept_answered, not_used_in}
use Rattle.swf_world.proofs.world.World.install_reply.Goals as goal

pub reply-requires : goal.reply-requires
reply-requires c = subst (λ h. IsOpenAt c.args.activity h.world.instances c.args.number) (sym c.self.view_is) c.requires.suits.awaits

pub add-requires-clause-new : goal.add-requires-clause-new
add-requires-clause-new c = not_used_in (world_of c.self.inside) c.args.self.now.world (keys.Activity c.args.activity) (keys.Activity c.args.activity) (ap (λ h. h.world) c.self.view_is) refl c.requires.suits.new

pub invariant_of-self : goal.invariant_of-self
invariant_of-self c =
    let w = world_of c.self.inside in
    let js = c.reply.new.self.instances in
    let same : ids js ≡ ids w.instances = ap ids c.reply.ensures.instances ∙ ids_replied c.args.activity c.args.reply w.instances in
    rw (c.reply.ensures.moment, c.add.ensures)
    (kept_answered (record w { instances = js }) c.args.activity (kept_changed w js c.self.invariant same) (omega (arith, c.requires.room, ap (λ h. h.room) c.self.view_is)))
