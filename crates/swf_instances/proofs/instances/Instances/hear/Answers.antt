use Rattle.std.proofs.Common.{◌≡◌, ◌∙◌, ap, sym, subst, refl, Some, arith}
use Rattle.std.specs.List.{AllByRecursion}
use Rattle.std.proofs.lemmas.List.{nil_from_length}
use Rattle.swf_instances.specs.Offers.{ids, put_at, put_all, IsHeardFrom}
use Rattle.swf_instances.proofs.OfferLemmas.{from_again, ids_put}
use Rattle.swf_instances.proofs.instances.Instances.hear.Goals as goal

pub loop-number-init : goal.loop-number-init
loop-number-init c =
    let is = c.args.self.now.instances in
    let same = c.into_iter-number-iterator.ensures.into_iter_gives.0 in
    record {
      heard = ap (λ hs. put_all hs is) same;
      from = subst (AllByRecursion (IsHeardFrom is)) (sym same) c.requires.from;
      moment = refl;
    }

pub put-requires : goal.put-requires
put-requires c =
    let is = c.loop-number.self.instances in
    let from = subst (AllByRecursion (IsHeardFrom is)) c.in-Some.ensures.steps.0 c.loop-number.invariant.from in
    from.0 ∙ ap (λ j. Some j.id) (sym c.into_inner.ensures)

pub loop-number-preserved : goal.loop-number-preserved
loop-number-preserved c =
    let is = c.loop-number.self.instances in
    let hs = c.next.new.self.rest.items in
    let n = c.in-Some.field-0.number in
    let j = c.in-Some.field-0.instance in
    let put : c.put.new.self.instances ≡ put_at n j is = c.put.ensures.instances ∙ ap (λ j. put_at n j is) c.into_inner.ensures in
    let from = subst (AllByRecursion (IsHeardFrom is)) c.in-Some.ensures.steps.0 c.loop-number.invariant.from in
    let same : ids is ≡ ids c.put.new.self.instances = sym (ap ids put ∙ ids_put is n j from.0) in
    record {
      heard = ap (put_all hs) put ∙ sym (ap (λ hs. put_all hs is) c.in-Some.ensures.steps.0) ∙ c.loop-number.invariant.heard;
      from = from_again is c.put.new.self.instances hs same from.1;
      moment = c.put.ensures.moment ∙ c.loop-number.invariant.moment;
    }

pub returns-clause-instances : goal.returns-clause-instances
returns-clause-instances c =
    let none = nil_from_length c.loop-number.number-iterator.rest.items (omega (arith, c.loop-number.number-iterator.rest.ok.0, c.in-None.ensures.steps.0)) in
    ap (λ hs. put_all hs c.loop-number.self.instances) (sym none) ∙ c.loop-number.invariant.heard
