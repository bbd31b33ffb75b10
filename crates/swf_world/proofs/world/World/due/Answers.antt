use Rattle.std.proofs.Common.{◌≡◌, ◌∙◌, ◌&&◌, ap, sym, true, nat_lt, arith}
use Rattle.std.proofs.lemmas.Bool.{lt-ltb}
use Rattle.std.specs.List.{list_any}
use Rattle.swf_meaning.specs.Wake.{is_due as is_due_in}
use Rattle.swf_world.specs.Waits.{is_due}
use Rattle.swf_world.proofs.world.World.due.Goals as goal

pub returns-then-moment-milliseconds : goal.returns-then-moment-milliseconds
returns-then-moment-milliseconds c =
    let is = c.self.inside.instances.instances in
    let now = c.self.inside.instances.moment in
    let moment = c.args.moment in
    let later : nat_lt now moment ≡ true = lt-ltb now moment (omega (arith, c.if-moment-milliseconds.true, c.milliseconds.ensures.value, c.now.ensures, ap (λ h. h.world.now) c.self.view_is)) in
    c.is_over.ensures ∙ ap (λ b. b && list_any (λ i. is_due_in moment i.node) is) (sym later) ∙ ap (λ h. is_due h.world moment) c.self.view_is
