use Rattle.std.proofs.Common.{rules, ◌≡◌, refl, sym, subst, [], ◌∷◌, Option, Some, None, Result, Ok, Err}
use Rattle.swf_engine.specs.declared.engine.Submitted.{Submitted}
use Rattle.swf_engine.specs.declared.fault.EngineFault.{EngineFault}
use Rattle.swf_engine.specs.declared.fault.EngineFault.TheVariants.{OutOfMemory}
use Rattle.swf_meaning.specs.declared.label.Label.TheVariants.{Reply}
use Rattle.swf_engine.specs.Answers.{Submits, Asks, Went, Fails}
use Rattle.swf_engine.specs.EngineCalls.{SubmitCalls}
use Rattle.swf_engine.specs.Core.{Core}
use Rattle.swf_engine.specs.Settling.{Called, IsAwaited}
use Rattle.swf_engine.proofs.AskLemmas.{nests_tellable, performed_none, performed_reply}
use Rattle.swf_engine.proofs.SettleLemmas.{reply_of, asked_one, went_reply, let_go, not_replied}
use Rattle.swf_engine.proofs.StepLemmas.{engine_of, where_fault}
use Rattle.swf_engine.proofs.engine.Engine.ask.Goals as goal

pub add_label-requires-clause-nests : goal.add_label-requires-clause-nests
add_label-requires-clause-nests g c = nests_tellable c.args.activity c.in_ok-reply.reply c.in_ok-reply.ensures.tellable

pub returns-in_err-reply-clause-asks : goal.returns-in_err-reply-clause-asks
returns-in_err-reply-clause-asks g c =
    let S = g.S.Store in
    let one = reply_of c.args.activity c.args.request.now None in
    let is : c.from_residual.result ≡ Err OutOfMemory = search rules in (
      one ∷ [],
      asked_one one _ _ (performed_none c.args.request.now _ _ _ c.in_err-reply.ensures.performs),
      subst (λ (r : Result (Unit {0}) EngineFault). Asks S.moment S.left_since S.said S.may_leave S.seen S.calls (one ∷ []) c.args.store.now c.args.store.now c.args.self.now c.args.self.now r) (sym is)
          (let_go S.moment S.left_since S.said S.may_leave S.seen S.calls g.met.S.Store.only_now c.args.activity c.args.request.now None c.args.store.now c.args.store.now c.args.self.now c.args.self.now (refl, refl)),
    )

-- the reply is added
pub returns-in-Ok-Accepted-clause-place : goal.returns-in-Ok-Accepted-clause-place
returns-in-Ok-Accepted-clause-place g c = engine_of (g.S.Store.seen c.add_label.new.store) c.add_label.new.journal c.add_label.new.world.world c.add_label.ensures.file c.in-Ok-Accepted.ensures.place

pub returns-in-Ok-Accepted-clause-asks : goal.returns-in-Ok-Accepted-clause-asks
returns-in-Ok-Accepted-clause-asks g c =
    let S = g.S.Store in
    let old = c.args.store.now in
    let new = c.add_label.new.store in
    let before : Core = record { world = c.self.inside.world.world; gate = c.self.inside.journal.at } in
    let later : Core = record { world = c.add_label.new.world.world; gate = c.add_label.new.journal.at } in
    let same : before ≡ c.args.self.now = c.self.view_is in
    let a = c.args.activity in
    let q = c.args.request.now in
    let r = c.in_ok-reply.reply in
    let one = reply_of a q (Some r) in
    let awaited : IsAwaited before.world (a, q) = subst (λ (b : Core). IsAwaited b.world (a, q)) (sym same) c.requires.awaited in (
      one ∷ [],
      asked_one one _ _ (performed_reply q r _ _ c.in_ok-reply.ensures.performs),
      subst (λ (b : Core). Went S.moment S.left_since S.said S.may_leave S.seen S.calls 0 (one ∷ []) old new b later) same
          (went_reply S.moment S.left_since S.said S.may_leave S.seen S.calls old new before later a q r c.in-Ok-Accepted.field-0-0 awaited
          (subst (λ (x : Submitted). Submits S.moment S.left_since S.said S.may_leave S.seen old new before later (Reply a r) (Ok x)) c.in-Ok-Accepted.field-0-is c.in-Ok-Accepted.ensures.submits)
          (subst (λ (x : Submitted). SubmitCalls (S.calls old) (S.calls new) before.gate later.gate (Reply a r) (Ok x)) c.in-Ok-Accepted.field-0-is c.in-Ok-Accepted.ensures.calls)),
    )

-- it is let go
pub returns-in-Ok-Refused-clause-place : goal.returns-in-Ok-Refused-clause-place
returns-in-Ok-Refused-clause-place g c = engine_of (g.S.Store.seen c.add_label.new.store) c.add_label.new.journal c.add_label.new.world.world c.add_label.ensures.file c.in-Ok-Refused.ensures.place

pub returns-in-Ok-Refused-clause-asks : goal.returns-in-Ok-Refused-clause-asks
returns-in-Ok-Refused-clause-asks g c =
    let S = g.S.Store in
    let old = c.args.store.now in
    let new = c.add_label.new.store in
    let before : Core = record { world = c.self.inside.world.world; gate = c.self.inside.journal.at } in
    let later : Core = record { world = c.add_label.new.world.world; gate = c.add_label.new.journal.at } in
    let a = c.args.activity in
    let q = c.args.request.now in
    let r = c.in_ok-reply.reply in
    let one = reply_of a q (Some r) in (
      one ∷ [],
      asked_one one _ _ (performed_reply q r _ _ c.in_ok-reply.ensures.performs),
      subst (λ (b : Core). Fails S.moment S.left_since S.said S.may_leave S.seen S.calls 0 (one ∷ []) old new b later OutOfMemory) c.self.view_is
          (let_go S.moment S.left_since S.said S.may_leave S.seen S.calls g.met.S.Store.only_now a q (Some r) old new before later
          (subst (λ (x : Submitted). Submits S.moment S.left_since S.said S.may_leave S.seen old new before later (Reply a r) (Ok x)) c.in-Ok-Refused.field-0-is c.in-Ok-Refused.ensures.submits).2),
    )

-- it is not added
pub returns-clause-place : goal.returns-clause-place
returns-clause-place g c = where_fault Submitted (Unit {0}) c.in-Err.fault _ _ c.in-Err.ensures.place
    (engine_of (g.S.Store.seen c.add_label.new.store) c.add_label.new.journal c.add_label.new.world.world c.add_label.ensures.file)

pub returns-clause-asks : goal.returns-clause-asks
returns-clause-asks g c =
    let S = g.S.Store in
    let old = c.args.store.now in
    let new = c.add_label.new.store in
    let before : Core = record { world = c.self.inside.world.world; gate = c.self.inside.journal.at } in
    let later : Core = record { world = c.add_label.new.world.world; gate = c.add_label.new.journal.at } in
    let same : before ≡ c.args.self.now = c.self.view_is in
    let a = c.args.activity in
    let q = c.args.request.now in
    let r = c.in_ok-reply.reply in
    let one = reply_of a q (Some r) in
    let awaited : IsAwaited before.world (a, q) = subst (λ (b : Core). IsAwaited b.world (a, q)) (sym same) c.requires.awaited in (
      one ∷ [],
      asked_one one _ _ (performed_reply q r _ _ c.in_ok-reply.ensures.performs),
      subst (λ (b : Core). Fails S.moment S.left_since S.said S.may_leave S.seen S.calls 0 (one ∷ []) old new b later c.in-Err.fault) same
          (not_replied S.moment S.left_since S.said S.may_leave S.seen S.calls g.met.S.Store.only_now a q r old new before later c.in-Err.fault awaited c.in-Err.ensures.submits c.in-Err.ensures.calls),
    )
