use Rattle.std.proofs.Common.{◌≡◌, ap, sym, subst, Result, Ok}
use Rattle.swf_meaning.specs.declared.label.Answer.{Answer}
use Rattle.swf_meaning.specs.World.{World}
use Rattle.swf_world.specs.declared.query.QueryFault.{QueryFault}
use Rattle.swf_engine.specs.declared.fault.EngineFault.{EngineFault}
use Rattle.swf_engine.specs.Core.{Core}
use Rattle.swf_engine.specs.Retelling.{AnswersQuery}
use Rattle.swf_engine.proofs.RetellLemmas.{answered_told, answered_failed}
use Rattle.swf_engine.proofs.engine.Engine.query.Goals as goal
use Rattle.swf_engine.proofs.engine.Engine.query.Goals.{in-History+in-Ok, in-History+in-Err, in-Status, in-Pending, in-Outbox}

pub returns-clause-answers : goal.returns-clause-answers
returns-clause-answers g c = λ image seen history stands.
    let may_leave = g.S.Store.may_leave c.args.store.now in
    let engine = c.args.self.now in
    let P : Result (Result Answer QueryFault) EngineFault → Type 0 = λ r. AnswersQuery history engine.world c.args.query.now r in
    elim c.match-query.branch [
      | in-History+in-Ok w ↦
          subst P (sym w.result-is) (answered_told image may_leave engine history c.args.query.now w.in-History.from w.in-Ok.value w.in-History.is stands (w.in-Ok.ensures.retells image seen))
      | in-History+in-Err w ↦
          subst P (sym w.result-is) (answered_failed image may_leave engine history c.args.query.now w.in-History.from w.in-Err.fault stands (w.in-Err.ensures.retells image seen))
      | in-Status w ↦
          let same : c.self.inside.world.world ≡ engine.world = ap (λ (e : Core). e.world) c.self.view_is in
          subst P (sym w.result-is) (subst (λ (v : World). AnswersQuery history v c.args.query.now (Ok w.answer.result)) same (w.answer.ensures history))
      | in-Pending w ↦
          let same : c.self.inside.world.world ≡ engine.world = ap (λ (e : Core). e.world) c.self.view_is in
          subst P (sym w.result-is) (subst (λ (v : World). AnswersQuery history v c.args.query.now (Ok w.answer-in-Pending.result)) same (w.answer-in-Pending.ensures history))
      | in-Outbox w ↦
          let same : c.self.inside.world.world ≡ engine.world = ap (λ (e : Core). e.world) c.self.view_is in
          subst P (sym w.result-is) (subst (λ (v : World). AnswersQuery history v c.args.query.now (Ok w.answer-in-Outbox.result)) same (w.answer-in-Outbox.ensures history))
    ]
