use Rattle.std.proofs.Common.{◌≡◌, ◌∙◌, refl, sym, subst, ℕ, ◌+◌, [], Ok, arith}
use Rattle.swf_engine.specs.Answers.{Steps, Went}
use Rattle.swf_engine.specs.Core.{Core}
use Rattle.swf_engine.proofs.SettleLemmas.{none_went, went_step, went_join, settled_quiet, settled_limit, not_settled}
use Rattle.swf_engine.proofs.engine.Engine.take_steps.Goals as goal

pub loop-steps-init : goal.loop-steps-init
loop-steps-init g c =
    let S = g.S.Store in
    record {
      place = c.requires.place;
      went = none_went S.moment S.left_since S.said S.may_leave S.seen S.calls g.met.S.Store.only_now c.args.store.now c.args.self.now;
      said = refl;
      beside = refl;
      honest = refl;
      faults = refl;
    }

pub loop-steps-preserved : goal.loop-steps-preserved
loop-steps-preserved g c =
    let S = g.S.Store in
    let i = c.loop-steps.invariant in
    record {
      place = c.in-Ok-true.ensures.place;
      went = went_join S.moment S.left_since S.said S.may_leave S.seen S.calls g.met.S.Store.only_now c.loop-steps.steps 1 (c.loop-steps.steps + 1) [] [] c.args.store.now c.loop-steps.store c.step.new.store c.args.self.now c.loop-steps.self c.step.new.self
          refl i.said i.went
          (went_step S.moment S.left_since S.said S.may_leave S.seen S.calls c.loop-steps.store c.step.new.store c.loop-steps.self c.step.new.self
          (subst (λ b. Steps S.moment S.left_since S.said S.may_leave S.seen S.calls c.loop-steps.store c.step.new.store c.loop-steps.self c.step.new.self (Ok b)) c.in-Ok-true.field-0-test c.in-Ok-true.ensures.steps));
      said = c.step.ensures.said ∙ i.said;
      beside = c.step.ensures.beside ∙ i.beside;
      honest = c.step.ensures.honest ∙ i.honest;
      faults = c.in-Ok-true.ensures.cause ∙ i.faults;
    }

pub returns-in-Ok-false-clause-settles : goal.returns-in-Ok-false-clause-settles
returns-in-Ok-false-clause-settles g c =
    let S = g.S.Store in
    let i = c.loop-steps.invariant in
    settled_quiet S.moment S.left_since S.said S.may_leave S.seen S.calls g.met.S.Store.only_now c.args.store.now c.loop-steps.store c.step.new.store c.args.self.now c.loop-steps.self c.step.new.self c.loop-steps.steps c.args.limit
    (omega arith) i.went (subst (λ b. Steps S.moment S.left_since S.said S.may_leave S.seen S.calls c.loop-steps.store c.step.new.store c.loop-steps.self c.step.new.self (Ok b)) c.in-Ok-false.field-0-test c.in-Ok-false.ensures.steps)

pub returns-in-Err-clause-settles : goal.returns-in-Err-clause-settles
returns-in-Err-clause-settles g c =
    let S = g.S.Store in
    let i = c.loop-steps.invariant in
    not_settled S.moment S.left_since S.said S.may_leave S.seen S.calls g.met.S.Store.only_now c.args.store.now c.loop-steps.store c.step.new.store c.args.self.now c.loop-steps.self c.step.new.self c.loop-steps.steps c.args.limit c.in-Err.fault
    (omega arith) i.said i.went c.in-Err.ensures.steps

pub returns-clause-settles : goal.returns-clause-settles
returns-clause-settles g c =
    let S = g.S.Store in
    let later : Core = record { world = c.is_quiet.new.self.world; gate = c.self.inside.journal.at } in
    let same : later ≡ c.loop-steps.self = (λ i. record { world = c.is_quiet.ensures.same i; gate = c.self.inside.journal.at }) ∙ c.self.view_is in
    let all : c.loop-steps.steps ≡ c.args.limit = omega arith in
    let Is : Core → ℕ → Type 0 = λ x n. Went S.moment S.left_since S.said S.may_leave S.seen S.calls n [] c.args.store.now c.loop-steps.store c.args.self.now x in
    settled_limit S.moment S.left_since S.said S.may_leave S.seen S.calls g.met.S.Store.only_now c.args.store.now c.loop-steps.store c.args.self.now later c.args.limit c.is_quiet.result
    (subst (λ n. Is later n) all (subst (λ x. Is x c.loop-steps.steps) (sym same) c.loop-steps.invariant.went)) c.is_quiet.ensures.quiet
