use Rattle.std.proofs.Common.{◌≡◌, ◌∷◌, [], length, ap, ◌∙◌, append_assoc, arith}
use Rattle.std.specs.Vec.Iter.{into_iter_items}
use Rattle.swf_scheduler.specs.declared.rule.Hand.{Hand}
use Rattle.swf_scheduler.proofs.Steps.{merges}
use Rattle.std.proofs.lemmas.List.Elements.{All-rest}
use Rattle.crossbeam_channel.specs.Ends.{sends_on}
use Rattle.swf_scheduler.specs.Hired.{IsOn}
use Rattle.swf_scheduler.proofs.Closings.{gathered_next}
use Rattle.swf_scheduler.proofs.closing.gather.Goals as goal

pub absorb-requires-clause-rule : goal.absorb-requires-clause-rule
absorb-requires-clause-rule g c = merges _ _ _ _ (ap (λ (v : Hand g.row.W.Denot). v.gives) c.dismiss-seat.ensures.1.knows)

pub loop-one-preserved : goal.loop-one-preserved
loop-one-preserved g c =
    let at = c.loop-one in
    let steps : into_iter_items at.one-iterator ≡ c.in-Some.one ∷ into_iter_items c.next.new.self = c.in-Some.ensures.steps.0 in
    let short = c.in-Some.ensures.steps.1 in
    let l = ap length steps in
    let r = at.invariant.rest in
    let m = at.invariant.room in record {
      order = append_assoc at.yielded (c.in-Some.one ∷ []) _ ∙ rw (← steps) at.invariant.order;
      rest = omega arith;
      bound = All-rest (IsOn g.W.Work.gives g.O.Outlet.offered (sends_on c.args.to.now)) c.in-Some.one _ _ steps at.invariant.bound;
      channel = c.absorb.ensures.channel.0;
      gathered = gathered_next g.W.Work.gives g.O.Outlet.offered at.yielded c.in-Some.one _ _ _ _ _ _ _ _ c.dismiss-seat.result.seat c.dismiss-seat.result.taken at.invariant.gathered c.dismiss-seat.ensures.1 c.absorb.ensures.rule c.push_reserved.ensures.items c.push_reserved-in-loop-one.ensures.items;
      room = (omega arith, omega arith);
    }
