use Rattle.std.proofs.Common.{rules, ◌≡◌, ◌∙◌, ap, refl, sym, subst, ℕ, ◌+◌, ◌-◌, [], ◌&&◌, true, false, Result, Ok, Err, arith}
use Rattle.std.specs.Prelude.{◌==◌, length}
use Rattle.swf_engine.specs.declared.fault.EngineFault.{EngineFault}
use Rattle.swf_engine.specs.declared.fault.EngineFault.TheVariants.{OutOfMemory}
use Rattle.swf_engine.specs.declared.settle.Settled.{Settled}
use Rattle.swf_engine.specs.Answers.{Settles}
use Rattle.swf_engine.specs.Core.{Core}
use Rattle.swf_engine.specs.Settling.{calls_in}
use Rattle.swf_engine.proofs.SettleLemmas.{Going, board_none, board_asked, settled_by, settled_all, going_none, going_on, going_fails, going_stops, going_settled}
use Rattle.swf_engine.proofs.engine.Engine.settle.Goals as goal
use Rattle.swf_engine.proofs.engine.Engine.settle.Goals.{then-calls, else-calls}

pub loop-init : goal.loop-init
loop-init g c =
    let S = g.S.Store in
    record {
      place = c.requires.place;
      few = omega arith;
      going = going_none S.moment S.left_since S.said S.may_leave S.seen S.calls g.met.S.Store.only_now c.args.calls _ c.args.store.now c.args.self.now;
      by_hand = λ e. refl;
      said = refl;
      beside = refl;
      honest = refl;
      faults = refl;
    }

pub returns-in_err-taken-clause-settles : goal.returns-in_err-taken-clause-settles
returns-in_err-taken-clause-settles g c =
    let S = g.S.Store in
    let i = c.loop.invariant in
    let fault = c.in_err-taken.field-0.0 in
    let is : c.from_residual.result ≡ Err fault = search rules in
    let fails = going_fails S.moment S.left_since S.said S.may_leave S.seen S.calls g.met.S.Store.only_now c.args.calls c.loop.steps (c.args.limit - c.loop.steps) c.args.limit [] _ _ _ c.args.store.now c.loop.store c.take_steps.new.store c.args.self.now c.loop.self c.take_steps.new.self
    fault (omega (arith, i.few)) i.said i.going (board_none c.args.calls _) c.in_err-taken.ensures.settles in
    (fails.0, fails.1, subst (λ (r : Result Settled EngineFault). Settles S.moment S.left_since S.said S.may_leave S.seen S.calls c.args.calls fails.0 c.args.store.now c.take_steps.new.store c.args.self.now c.take_steps.new.self c.args.limit r) (sym is) fails.2)

-- strands are enabled, or calls are answered by hand
pub returns-then-not-taken-clause-settles : goal.returns-then-not-taken-clause-settles
returns-then-not-taken-clause-settles g c =
    let S = g.S.Store in
    let i = c.loop.invariant in
    let taken = c.in_ok-taken.taken in
    let done = c.in_ok-taken.ensures.settles in
    let steps = c.loop.steps + taken.steps in
    let ends : (c.args.calls && taken.quiet) ≡ false = elim c.if-calls.branch [
      | then-calls w ↦ ap (λ b. b && taken.quiet) w.if-calls.true ∙ sym w.value-is ∙ c.if-not-taken.true
      | else-calls w ↦ ap (λ b. b && taken.quiet) w.if-calls.false
    ] in
    going_settled S.moment S.left_since S.said S.may_leave S.seen S.calls g.met.S.Store.only_now c.args.calls c.args.limit _ _ c.args.store.now c.take_steps.new.store c.args.self.now c.take_steps.new.self
    (record { steps = steps; quiet = taken.quiet }) (omega (arith, i.few, done.1)) (settled_by c.args.calls taken.quiet c.take_steps.new.self.world ends done.2) (λ loud. omega (arith, i.few, done.1, done.3 loud))
    (going_on S.moment S.left_since S.said S.may_leave S.seen S.calls g.met.S.Store.only_now c.args.calls c.loop.steps taken.steps steps [] _ _ _ c.args.store.now c.loop.store c.take_steps.new.store c.args.self.now c.loop.self c.take_steps.new.self
    refl i.said i.going (board_none c.args.calls _) done.0)

-- no memory was found for the calls that are open
pub returns-in_err-awaited-clause-settles : goal.returns-in_err-awaited-clause-settles
returns-in_err-awaited-clause-settles g c =
    let S = g.S.Store in
    let i = c.loop.invariant in
    let taken = c.in_ok-taken.taken in
    let done = c.in_ok-taken.ensures.settles in
    let steps = c.loop.steps + taken.steps in
    let is : c.from_residual-in_err-awaited.result ≡ Err OutOfMemory = search rules in
    let stops = going_stops S.moment S.left_since S.said S.may_leave S.seen S.calls g.met.S.Store.only_now c.args.calls steps c.args.limit _ _ c.args.store.now c.take_steps.new.store c.args.self.now c.take_steps.new.self (omega (arith, i.few, done.1))
    (going_on S.moment S.left_since S.said S.may_leave S.seen S.calls g.met.S.Store.only_now c.args.calls c.loop.steps taken.steps steps [] _ _ _ c.args.store.now c.loop.store c.take_steps.new.store c.args.self.now c.loop.self c.take_steps.new.self
    refl i.said i.going (board_none c.args.calls _) done.0) in
    (stops.0, stops.1, subst (λ (r : Result Settled EngineFault). Settles S.moment S.left_since S.said S.may_leave S.seen S.calls c.args.calls stops.0 c.args.store.now c.take_steps.new.store c.args.self.now c.take_steps.new.self c.args.limit r) (sym is) stops.2)

-- no strand is enabled, and no call is open
pub returns-then-is_empty-clause-settles : goal.returns-then-is_empty-clause-settles
returns-then-is_empty-clause-settles g c =
    let S = g.S.Store in
    let i = c.loop.invariant in
    let taken = c.in_ok-taken.taken in
    let done = c.in_ok-taken.ensures.settles in
    let steps = c.loop.steps + taken.steps in
    let asked : (c.args.calls ≡ true) × (taken.quiet ≡ true) = elim c.if-calls.branch [
      | then-calls w ↦ (w.if-calls.true, sym w.value-is ∙ c.if-not-taken.false)
      | else-calls w ↦ let no : false ≡ true = sym w.if-calls.false ∙ sym w.value-is ∙ c.if-not-taken.false in absurd (cc)
    ] in
    let w = c.take_steps.new.self.world in
    let long : c.in_ok-awaited.awaited.len ≡ length (calls_in w) =
    omega (arith, c.in_ok-awaited.awaited.ok.0, ap length (c.in_ok-awaited.ensures ∙ ap (λ (x : Core). calls_in x.world) c.self.view_is)) in
    let none : (length (calls_in w) == 0) ≡ true = sym (ap (λ n. n == 0) long) ∙ sym c.is_empty.ensures ∙ c.if-is_empty.true in
    going_settled S.moment S.left_since S.said S.may_leave S.seen S.calls g.met.S.Store.only_now c.args.calls c.args.limit _ _ c.args.store.now c.take_steps.new.store c.args.self.now c.take_steps.new.self
    (record { steps = steps; quiet = true }) (omega (arith, i.few, done.1)) (settled_all c.args.calls taken.quiet w asked.1 done.2 none) (λ loud. absurd (cc))
    (going_on S.moment S.left_since S.said S.may_leave S.seen S.calls g.met.S.Store.only_now c.args.calls c.loop.steps taken.steps steps [] _ _ _ c.args.store.now c.loop.store c.take_steps.new.store c.args.self.now c.loop.self c.take_steps.new.self
    refl i.said i.going (board_none c.args.calls _) done.0)

-- a call was not asked, or its reply not added
pub returns-in_err-ask_all-clause-settles : goal.returns-in_err-ask_all-clause-settles
returns-in_err-ask_all-clause-settles g c =
    let S = g.S.Store in
    let i = c.loop.invariant in
    let taken = c.in_ok-taken.taken in
    let done = c.in_ok-taken.ensures.settles in
    let steps = c.loop.steps + taken.steps in
    let asked : (c.args.calls ≡ true) × (taken.quiet ≡ true) = elim c.if-calls.branch [
      | then-calls w ↦ (w.if-calls.true, sym w.value-is ∙ c.if-not-taken.false)
      | else-calls w ↦ let no : false ≡ true = sym w.if-calls.false ∙ sym w.value-is ∙ c.if-not-taken.false in absurd (cc)
    ] in
    let asks = c.in_err-ask_all.ensures.asks in
    let fault = c.in_err-ask_all.field-0.0 in
    let is : c.from_residual-in_err-ask_all.result ≡ Err fault = search rules in
    let fails = going_fails S.moment S.left_since S.said S.may_leave S.seen S.calls g.met.S.Store.only_now c.args.calls steps 0 c.args.limit asks.0 _ _ _ c.args.store.now c.take_steps.new.store c.ask_all.new.store c.args.self.now c.take_steps.new.self c.ask_all.new.self
    fault (omega (arith, i.few, done.1)) (c.take_steps.ensures.said ∙ i.said)
    (going_on S.moment S.left_since S.said S.may_leave S.seen S.calls g.met.S.Store.only_now c.args.calls c.loop.steps taken.steps steps [] _ _ _ c.args.store.now c.loop.store c.take_steps.new.store c.args.self.now c.loop.self c.take_steps.new.self
    refl i.said i.going (board_none c.args.calls _) done.0)
    (board_asked c.args.calls asks.0 _ _ asked.0 asks.1) asks.2 in
    (fails.0, fails.1, subst (λ (r : Result Settled EngineFault). Settles S.moment S.left_since S.said S.may_leave S.seen S.calls c.args.calls fails.0 c.args.store.now c.ask_all.new.store c.args.self.now c.ask_all.new.self c.args.limit r) (sym is) fails.2)

pub loop-preserved : goal.loop-preserved
loop-preserved g c =
    let S = g.S.Store in
    let i = c.loop.invariant in
    let taken = c.in_ok-taken.taken in
    let done = c.in_ok-taken.ensures.settles in
    let steps = c.loop.steps + taken.steps in
    let asked : (c.args.calls ≡ true) × (taken.quiet ≡ true) = elim c.if-calls.branch [
      | then-calls w ↦ (w.if-calls.true, sym w.value-is ∙ c.if-not-taken.false)
      | else-calls w ↦ let no : false ≡ true = sym w.if-calls.false ∙ sym w.value-is ∙ c.if-not-taken.false in absurd (cc)
    ] in
    let asks = c.in_ok-ask_all.ensures.asks in
    record {
      place = c.in_ok-ask_all.ensures.place;
      few = omega (arith, i.few, done.1);
      going = going_on S.moment S.left_since S.said S.may_leave S.seen S.calls g.met.S.Store.only_now c.args.calls steps 0 steps asks.0 _ _ _ c.args.store.now c.take_steps.new.store c.ask_all.new.store c.args.self.now c.take_steps.new.self c.ask_all.new.self
          (omega arith) (c.take_steps.ensures.said ∙ i.said)
          (going_on S.moment S.left_since S.said S.may_leave S.seen S.calls g.met.S.Store.only_now c.args.calls c.loop.steps taken.steps steps [] _ _ _ c.args.store.now c.loop.store c.take_steps.new.store c.args.self.now c.loop.self c.take_steps.new.self
          refl i.said i.going (board_none c.args.calls _) done.0)
          (board_asked c.args.calls asks.0 _ _ asked.0 asks.1) asks.2;
      by_hand = λ e. let yes = asked.0 in absurd (cc);
      said = c.ask_all.ensures.said ∙ c.take_steps.ensures.said ∙ i.said;
      beside = c.ask_all.ensures.beside ∙ c.take_steps.ensures.beside ∙ i.beside;
      honest = c.ask_all.ensures.honest ∙ c.take_steps.ensures.honest ∙ i.honest;
      faults = c.in_ok-ask_all.ensures.cause ∙ c.in_ok-taken.ensures.cause ∙ i.faults;
    }
