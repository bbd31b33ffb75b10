use Rattle.std.proofs.Common.{[], inl, sym, subst, ◌∙◌, Ok, Result, ap, is_some}
use Rattle.std.specs.Result.{IfOk}
use Rattle.swf_meaning.specs.declared.label.Answer.{Answer}
use Rattle.swf_world.specs.declared.query.QueryFault.{QueryFault}
use Rattle.swf_engine.specs.declared.fault.EngineFault.{EngineFault}
use Rattle.swf_engine.specs.Causes.{EngineCause}
use Rattle.swf_engine.specs.Core.{IsEngineOf}
use Rattle.swf_protocol.specs.Sayable.{IsSayable}
use Rattle.swf_protocol.specs.declared.reply.Reply.{Reply}
use Rattle.swf_turns.specs.Steps.{IsBreak}
use Rattle.swf_turns.proofs.AnswerLemmas.{answer_of, asked_done_as, query_breaks, query_usable, or_memory_cause, sayable_or_memory}
use Rattle.swf_turns.proofs.FaultLemmas.{asked_faults_as}
use Rattle.swf_turns.proofs.answer.ask.Goals as goal

pub returns-in-Ok-clause-done : goal.returns-in-Ok-clause-done
returns-in-Ok-clause-done g c = λ words.
    let H = g.S.Store in
    asked_done_as words [] H.moment H.left_since H.said H.may_leave H.seen g.met.S.Store.only_now c.args.query.now c.args.store.now c.query.new.store c.args.engine.now c.query.new.self c.query.result (Ok c.queried.result)
    c.query.ensures.engine c.query.ensures.seen c.query.ensures.stop c.query.ensures.any_moment c.query.ensures.answers (ap answer_of c.in-Ok.is ∙ ap Ok (sym c.queried.ensures.reply))

pub returns-in-Err : goal.returns-in-Err
returns-in-Err g c =
    let H = g.S.Store in
    let cause = subst (λ (r : Result (Result Answer QueryFault) EngineFault). EngineCause (H.store_faults c.args.store.now) (H.store_faults c.query.new.store) r) c.in-Err.is c.query.ensures.cause in
    record {
      which = subst (λ (r : Result Reply EngineFault). IsBreak r) (sym c.or_memory.ensures) (query_breaks c.in-Err.fault);
      faults = asked_faults_as (H.seen c.query.new.store) (H.seen c.args.store.now) c.args.query.now c.query.result c.or_memory.result c.query.ensures.seen c.query.ensures.queries c.query.ensures.full
          (λ of_world. (c.query.ensures.of_world of_world).1) (ap answer_of c.in-Err.is ∙ sym c.or_memory.ensures);
      place = query_usable c.in-Err.fault c.or_memory.result (IsEngineOf (H.seen c.query.new.store) c.query.new.self) c.or_memory.ensures c.query.ensures.place;
      done = λ words. asked_done_as words [] H.moment H.left_since H.said H.may_leave H.seen g.met.S.Store.only_now c.args.query.now c.args.store.now c.query.new.store c.args.engine.now c.query.new.self c.query.result c.or_memory.result
          c.query.ensures.engine c.query.ensures.seen c.query.ensures.stop c.query.ensures.any_moment c.query.ensures.answers (ap answer_of c.in-Err.is ∙ sym c.or_memory.ensures);
      calls = λ words. inl (c.query.result, c.query.ensures.calls);
      sayable = subst (λ (r : Result Reply EngineFault). IfOk r IsSayable) (sym c.or_memory.ensures) (sayable_or_memory c.in-Err.fault);
      said = c.query.ensures.said;
      beside = c.query.ensures.beside;
      honest = ap is_some c.query.ensures.seen;
      cause = or_memory_cause (Result Answer QueryFault) c.in-Err.fault c.or_memory.result (H.store_faults c.args.store.now) (H.store_faults c.query.new.store) c.or_memory.ensures cause;
    }

pub returns-in-Ok-clause-calls : goal.returns-in-Ok-clause-calls
returns-in-Ok-clause-calls g c = λ words. inl (c.query.result, c.query.ensures.calls)

pub returns-in-Ok-clause-faults : goal.returns-in-Ok-clause-faults
returns-in-Ok-clause-faults g c =
    let H = g.S.Store in
    asked_faults_as (H.seen c.query.new.store) (H.seen c.args.store.now) c.args.query.now c.query.result (Ok c.queried.result) c.query.ensures.seen c.query.ensures.queries c.query.ensures.full
    (λ of_world. (c.query.ensures.of_world of_world).1) (ap answer_of c.in-Ok.is ∙ ap Ok (sym c.queried.ensures.reply))
