use Rattle.std.proofs.Common.{◌≡◌, ◌∙◌, Bool, true, Option, Result, Ok, Err, IfSome, sym, subst}
use Rattle.swf_meaning.specs.declared.label.Label.{Label}
use Rattle.swf_record.specs.Encodes.{Nests}
use Rattle.swf_world.specs.declared.change.Change.{Change}
use Rattle.swf_world.specs.Prepares.{IsPreparedStep}
use Rattle.swf_engine.specs.declared.fault.EngineFault.{EngineFault}
use Rattle.swf_engine.specs.declared.engine.Submitted.{Submitted}
use Rattle.swf_engine.specs.Answers.{Steps}
use Rattle.swf_engine.specs.Causes.{WhereUsable}
use Rattle.swf_engine.specs.Core.{Core, IsEngineOf}
use Rattle.swf_engine.proofs.StepLemmas.{engine_of, where_fault, stepped, not_stepped}
use Rattle.swf_engine.proofs.engine.Engine.step.Goals as goal
use Rattle.swf_engine.proofs.engine.Engine.step.Goals.{in-Ok, in-Err}

pub add_prepared-requires-clause-suits : goal.add_prepared-requires-clause-suits
add_prepared-requires-clause-suits g c =
    (subst (λ (o : Option (Label × Change)). IfSome o (IsPreparedStep c.prepare_next.new.self.world)) c.in-Some.is c.in_ok-prepared.ensures.some).prepares.0

pub add_prepared-requires-clause-leads : goal.add_prepared-requires-clause-leads
add_prepared-requires-clause-leads g c =
    (subst (λ (o : Option (Label × Change)). IfSome o (IsPreparedStep c.prepare_next.new.self.world)) c.in-Some.is c.in_ok-prepared.ensures.some).prepares.1

pub add_prepared-requires-clause-free : goal.add_prepared-requires-clause-free
add_prepared-requires-clause-free g c =
    (subst (λ (o : Option (Label × Change)). IfSome o (IsPreparedStep c.prepare_next.new.self.world)) c.in-Some.is c.in_ok-prepared.ensures.some).prepares.2

pub add_prepared-requires-clause-taken : goal.add_prepared-requires-clause-taken
add_prepared-requires-clause-taken g c =
    (subst (λ (o : Option (Label × Change)). IfSome o (IsPreparedStep c.prepare_next.new.self.world)) c.in-Some.is c.in_ok-prepared.ensures.some).prepares.3

pub add_prepared-requires-clause-nests : goal.add_prepared-requires-clause-nests
add_prepared-requires-clause-nests g c =
    subst Nests (sym (subst (λ (o : Option (Label × Change)). IfSome o (IsPreparedStep c.prepare_next.new.self.world)) c.in-Some.is c.in_ok-prepared.ensures.some).goes.step) tt

pub returns-clause-place : goal.returns-clause-place
returns-clause-place g c =
    let seen = g.S.Store.seen c.add_prepared.new.store in
    let later : Core = record { world = c.add_prepared.new.world.world; gate = c.add_prepared.new.journal.at } in
    elim c.match-add_prepared.branch [
      | in-Ok w ↦ subst (λ (r : Result Bool EngineFault). WhereUsable r (IsEngineOf seen later)) (sym w.result-is) (engine_of seen c.add_prepared.new.journal later.world c.add_prepared.ensures.file w.in-Ok.ensures.place)
      | in-Err w ↦ subst (λ (r : Result Bool EngineFault). WhereUsable r (IsEngineOf seen later)) (sym w.result-is)
          (where_fault Submitted Bool w.in-Err.fault _ _ w.in-Err.ensures.place (λ p. engine_of seen c.add_prepared.new.journal later.world c.add_prepared.ensures.file p))
    ]

pub returns-clause-steps : goal.returns-clause-steps
returns-clause-steps g c =
    let S = g.S.Store in
    let old = c.args.store.now in
    let new = c.add_prepared.new.store in
    let before : Core = record { world = c.prepare_next.new.self.world; gate = c.self.inside.journal.at } in
    let later : Core = record { world = c.add_prepared.new.world.world; gate = c.add_prepared.new.journal.at } in
    let same : before ≡ c.args.self.now = (λ i. record { world = c.prepare_next.ensures.same i; gate = c.self.inside.journal.at }) ∙ c.self.view_is in
    let goes = (subst (λ (o : Option (Label × Change)). IfSome o (IsPreparedStep c.prepare_next.new.self.world)) c.in-Some.is c.in_ok-prepared.ensures.some).goes in
    subst (λ (b : Core). Steps S.moment S.left_since S.said S.may_leave S.seen S.calls old new b later c.match-add_prepared.result) same
    (elim c.match-add_prepared.branch [
      | in-Ok w ↦ subst (λ (r : Result Bool EngineFault). Steps S.moment S.left_since S.said S.may_leave S.seen S.calls old new before later r) (sym w.result-is)
          (stepped S.moment S.left_since S.said S.may_leave S.seen S.calls old new before later _ _ goes w.in-Ok.ensures.submits w.in-Ok.ensures.calls)
      | in-Err w ↦ subst (λ (r : Result Bool EngineFault). Steps S.moment S.left_since S.said S.may_leave S.seen S.calls old new before later r) (sym w.result-is)
          (not_stepped S.moment S.left_since S.said S.may_leave S.seen S.calls old new before later _ w.in-Err.fault goes w.in-Err.ensures.submits w.in-Err.ensures.calls)
    ])
