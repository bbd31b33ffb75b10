use Rattle.std.proofs.Common.{◌≡◌, ◌∙◌, ap, sym, subst, ℕ, true, is_some, Option, None, IfSome}
use Rattle.swf_meaning.specs.declared.key.Key.TheVariants as keys
use Rattle.swf_meaning.specs.declared.label.Label.TheVariants.{Reply}
use Rattle.swf_runs.specs.After.{is_open}
use Rattle.swf_registry.specs.UsedKey.{used_at}
use Rattle.swf_instances.specs.Replies.{is_open_among, IsOpenAt}
use Rattle.swf_world.specs.Prepares.{Prepares}
use Rattle.swf_world.proofs.Checks.{reply_prepares}
use Rattle.swf_world.proofs.world.World.prepare_reply.Goals as goal

pub returns-in-Ok-Some : goal.returns-in-Ok-Some
returns-in-Ok-Some c =
    let w = c.args.self.now.world in
    let a = c.args.activity.now in
    let r = c.args.reply.now in
    let n = c.in-Ok-Some.number in
    let new : used_at (keys.Activity a) w.keys ≡ None = sym (c.place.ensures ∙ ap (λ h. used_at (keys.Activity a) h.world.keys) c.self.view_is) ∙ c.in_default.is in
    let awaits : is_open a w ≡ true = sym (sym (ap (λ (o : Option ℕ). is_some o) c.in-Ok-Some.field-0-is) ∙ c.in-Ok-Some.ensures.open ∙ ap (λ h. is_open_among a h.world.instances) c.self.view_is) in
    let found = subst (λ (o : Option ℕ). IfSome o (IsOpenAt a c.self.inside.instances.instances)) c.in-Ok-Some.field-0-is c.in-Ok-Some.ensures.there in
    let there : IsOpenAt a w.instances n = subst (λ h. IsOpenAt a h.world.instances n) c.self.view_is found in
    subst (Prepares w (Reply a r)) (sym c.ready.ensures) (reply_prepares w a r n c.reply_change.result new awaits there c.reply_change.ensures)
