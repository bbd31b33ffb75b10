use Rattle.std.proofs.Common.{rules, ◌≡◌, ◌∙◌, ap, refl, sym, subst, true, length, arith}
use Rattle.std.specs.Prelude.{All}
use Rattle.std.specs.Vec.Iter.{into_iter_items}
use Rattle.std.proofs.lemmas.List.Elements.{All-head, All-tail, All-weaker}
use Rattle.swf_engine.specs.Settling.{IsAwaited}
use Rattle.swf_engine.proofs.OpenCallLemmas.{all_awaited}
use Rattle.swf_engine.proofs.SettleLemmas.{board_asked, awaited_went, going_none, going_on, going_fails}
use Rattle.swf_engine.proofs.engine.Engine.ask_all.Goals as goal

pub loop-activity-init : goal.loop-activity-init
loop-activity-init g c =
    let S = g.S.Store in
    let w = c.args.self.now.world in
    record {
      place = c.requires.place;
      awaited = subst (All (IsAwaited w)) (sym (c.into_iter-activity-iterator.ensures.into_iter_gives.0 ∙ c.requires.awaited)) (all_awaited w);
      left = search rules;
      going = going_none S.moment S.left_since S.said S.may_leave S.seen S.calls g.met.S.Store.only_now true _ c.args.store.now c.args.self.now;
      said = refl;
      beside = refl;
      honest = refl;
      faults = refl;
    }

pub ask-requires-clause-awaited : goal.ask-requires-clause-awaited
ask-requires-clause-awaited g c =
    let w = c.loop-activity.self.world in
    All-head (IsAwaited w) _ (into_iter_items c.next.new.self) (subst (All (IsAwaited w)) c.in-Some.ensures.steps.0 c.loop-activity.invariant.awaited)

pub loop-activity-preserved : goal.loop-activity-preserved
loop-activity-preserved g c =
    let S = g.S.Store in
    let i = c.loop-activity.invariant in
    let w = c.loop-activity.self.world in
    let asks = c.in-Ok.ensures.asks in
    let rest = All-tail (IsAwaited w) _ (into_iter_items c.next.new.self) (subst (All (IsAwaited w)) c.in-Some.ensures.steps.0 i.awaited) in
    record {
      place = c.in-Ok.ensures.place;
      awaited = All-weaker (IsAwaited w) (IsAwaited c.ask.new.self.world)
          (λ call h. awaited_went S.moment S.left_since S.said S.may_leave S.seen S.calls asks.0 c.loop-activity.store c.ask.new.store c.loop-activity.self c.ask.new.self call asks.2 h)
          (into_iter_items c.next.new.self) rest;
      left = omega (arith, c.in-Some.ensures.steps.1, i.left, ap length c.in-Some.ensures.steps.0);
      going = going_on S.moment S.left_since S.said S.may_leave S.seen S.calls g.met.S.Store.only_now true 0 0 0 asks.0 _ _ _ c.args.store.now c.loop-activity.store c.ask.new.store c.args.self.now c.loop-activity.self c.ask.new.self
          refl i.said i.going (board_asked true asks.0 _ _ refl asks.1) asks.2;
      said = c.ask.ensures.said ∙ i.said;
      beside = c.ask.ensures.beside ∙ i.beside;
      honest = c.ask.ensures.honest ∙ i.honest;
      faults = c.in-Ok.ensures.cause ∙ i.faults;
    }

-- the same where the request has no body
pub loop-activity-preserved-in-Ok : goal.loop-activity-preserved-in-Ok
loop-activity-preserved-in-Ok g c =
    let S = g.S.Store in
    let i = c.loop-activity.invariant in
    let w = c.loop-activity.self.world in
    let asks = c.in-Ok.ensures.asks in
    let rest = All-tail (IsAwaited w) _ (into_iter_items c.next.new.self) (subst (All (IsAwaited w)) c.in-Some.ensures.steps.0 i.awaited) in
    record {
      place = c.in-Ok.ensures.place;
      awaited = All-weaker (IsAwaited w) (IsAwaited c.ask.new.self.world)
          (λ call h. awaited_went S.moment S.left_since S.said S.may_leave S.seen S.calls asks.0 c.loop-activity.store c.ask.new.store c.loop-activity.self c.ask.new.self call asks.2 h)
          (into_iter_items c.next.new.self) rest;
      left = omega (arith, c.in-Some.ensures.steps.1, i.left, ap length c.in-Some.ensures.steps.0);
      going = going_on S.moment S.left_since S.said S.may_leave S.seen S.calls g.met.S.Store.only_now true 0 0 0 asks.0 _ _ _ c.args.store.now c.loop-activity.store c.ask.new.store c.args.self.now c.loop-activity.self c.ask.new.self
          refl i.said i.going (board_asked true asks.0 _ _ refl asks.1) asks.2;
      said = c.ask.ensures.said ∙ i.said;
      beside = c.ask.ensures.beside ∙ i.beside;
      honest = c.ask.ensures.honest ∙ i.honest;
      faults = c.in-Ok.ensures.cause ∙ i.faults;
    }

pub returns-in-Err-clause-asks : goal.returns-in-Err-clause-asks
returns-in-Err-clause-asks g c =
    let S = g.S.Store in
    let i = c.loop-activity.invariant in
    let asks = c.in-Err.ensures.asks in
    let fails = going_fails S.moment S.left_since S.said S.may_leave S.seen S.calls g.met.S.Store.only_now true 0 0 0 asks.0 _ _ _ c.args.store.now c.loop-activity.store c.ask.new.store c.args.self.now c.loop-activity.self c.ask.new.self
    c.in-Err.fault (omega arith) i.said i.going (board_asked true asks.0 _ _ refl asks.1) asks.2 in
    (fails.0, fails.1.asked, fails.2)

pub returns-clause-asks : goal.returns-clause-asks
returns-clause-asks g c = let so_far = c.loop-activity.invariant.going in (so_far.called, so_far.board.asked, so_far.went)
