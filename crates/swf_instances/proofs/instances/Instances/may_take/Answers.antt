use Rattle.std.proofs.Common.{◌∙◌, ap, sym, subst, true}
use Rattle.std.proofs.lemmas.Result.{IfOk-weaker}
use Rattle.swf_listeners.specs.Listeners.{numbers_where}
use Rattle.swf_instances.specs.Held.{instances_in}
use Rattle.swf_instances.specs.Offers.{Covers}
use Rattle.swf_instances.proofs.OfferLemmas.{covers_all, covers_who}
use Rattle.swf_instances.proofs.instances.Instances.may_take.Goals as goal

pub returns-in-None : goal.returns-in-None
returns-in-None c =
    let e = c.args.event.now in
    let is = instances_in c.self.inside.machines.entries in
    IfOk-weaker c.who.result _ _ (λ v same. subst (λ xs. Covers e xs v.items) (ap (λ h. h.instances) c.self.view_is)
    (covers_who e is c.self.inside.listeners.wanted c.self.inside.stale v.items c.self.invariant.listening (sym c.in-None.ensures.first) same)) c.who.ensures

pub returns-in-Some : goal.returns-in-Some
returns-in-Some c =
    let e = c.args.event.now in
    let is = c.args.self.now.instances in
    IfOk-weaker c.all_below.result _ _ (λ v same. covers_all e is v.items (same ∙ ap (numbers_where (λ n. true)) c.len.ensures.len)) c.all_below.ensures
