use Rattle.std.proofs.Common.{[], inl, sym, subst, ◌∙◌, Ok, Result, ap}
use Rattle.std.specs.Result.{IfOk}
use Rattle.swf_engine.specs.declared.engine.Submitted.{Submitted}
use Rattle.swf_engine.specs.declared.fault.EngineFault.{EngineFault}
use Rattle.swf_engine.specs.Answers.{IsSmall, Submits}
use Rattle.swf_engine.specs.Causes.{EngineCause, WhereUsable}
use Rattle.swf_engine.specs.Core.{IsEngineOf}
use Rattle.swf_protocol.specs.Sayable.{IsSayable}
use Rattle.swf_protocol.specs.declared.reply.Reply.{Reply}
use Rattle.swf_turns.specs.Faults.{MayAddFault}
use Rattle.swf_turns.specs.Steps.{IsBreak}
use Rattle.swf_world.specs.Latest.{label_of}
use Rattle.swf_turns.proofs.AnswerLemmas.{accepted_so, said_accepted, submit_reply, submit_done_as, submit_breaks, submit_faults, or_memory_usable, or_memory_cause, sayable_or_memory}
use Rattle.swf_turns.proofs.answer.submit.Goals as goal

pub returns-in-Ok-Accepted-clause-done : goal.returns-in-Ok-Accepted-clause-done
returns-in-Ok-Accepted-clause-done g c = λ words.
    let H = g.S.Store in
    let o = c.args.outcome in
    submit_done_as words [] H.moment H.left_since H.said H.may_leave H.seen g.met.S.Store.only_now o c.args.store.now c.submit.new.store c.args.engine.now c.submit.new.self c.submit.result (Ok c.accepted.result)
    c.submit.ensures.submits
    (ap (submit_reply o) (c.in-Ok-Accepted.is ∙ ap Ok c.in-Ok-Accepted.field-0-is) ∙ ap Ok (accepted_so o c.in-Ok-Accepted.installed.place c.in-Ok-Accepted.installed.taken c.sort_of-sort.result c.accepted.result c.sort_of-sort.ensures c.accepted.ensures))

pub returns-in-Ok-Accepted-clause-sayable : goal.returns-in-Ok-Accepted-clause-sayable
returns-in-Ok-Accepted-clause-sayable g c =
    let small = subst (λ (r : Result Submitted EngineFault). IfOk r IsSmall) (c.in-Ok-Accepted.is ∙ ap Ok c.in-Ok-Accepted.field-0-is) c.submit.ensures.small in
    said_accepted c.args.outcome c.in-Ok-Accepted.installed.place c.in-Ok-Accepted.installed.taken c.accepted.result
    (accepted_so c.args.outcome c.in-Ok-Accepted.installed.place c.in-Ok-Accepted.installed.taken c.sort_of-sort.result c.accepted.result c.sort_of-sort.ensures c.accepted.ensures) small

pub returns-in-Ok-Refused-clause-done : goal.returns-in-Ok-Refused-clause-done
returns-in-Ok-Refused-clause-done g c = λ words.
    let H = g.S.Store in
    let o = c.args.outcome in
    submit_done_as words [] H.moment H.left_since H.said H.may_leave H.seen g.met.S.Store.only_now o c.args.store.now c.submit.new.store c.args.engine.now c.submit.new.self c.submit.result (Ok c.refused.result)
    c.submit.ensures.submits
    (ap (submit_reply o) (c.in-Ok-Refused.is ∙ ap Ok c.in-Ok-Refused.field-0-is) ∙ ap Ok (sym c.refused.ensures))

pub returns-in-Err : goal.returns-in-Err
returns-in-Err g c =
    let H = g.S.Store in
    let o = c.args.outcome in
    let usable = subst (λ (r : Result Submitted EngineFault). WhereUsable r (IsEngineOf (H.seen c.submit.new.store) c.submit.new.self)) c.in-Err.is c.submit.ensures.place in
    let cause = subst (λ (r : Result Submitted EngineFault). EngineCause (H.store_faults c.args.store.now) (H.store_faults c.submit.new.store) r) c.in-Err.is c.submit.ensures.cause in
    let submits = subst (λ (r : Result Submitted EngineFault). Submits H.moment H.left_since H.said H.may_leave H.seen c.args.store.now c.submit.new.store c.args.engine.now c.submit.new.self (label_of c.args.engine.now.world o) r) c.in-Err.is c.submit.ensures.submits in
    record {
      which = subst (λ (r : Result Reply EngineFault). IsBreak r) (sym c.or_memory.ensures)
          (submit_breaks H.moment H.left_since H.said H.may_leave H.seen g.met.S.Store.only_now o c.args.store.now c.submit.new.store c.args.engine.now c.submit.new.self c.in-Err.fault submits);
      faults = subst MayAddFault (sym c.or_memory.ensures)
          (submit_faults H.moment H.left_since H.said H.may_leave H.seen g.met.S.Store.only_now o c.args.store.now c.submit.new.store c.args.engine.now c.submit.new.self c.in-Err.fault submits);
      place = or_memory_usable Submitted c.in-Err.fault c.or_memory.result (IsEngineOf (H.seen c.submit.new.store) c.submit.new.self) c.or_memory.ensures usable;
      done = λ words. submit_done_as words [] H.moment H.left_since H.said H.may_leave H.seen g.met.S.Store.only_now o c.args.store.now c.submit.new.store c.args.engine.now c.submit.new.self c.submit.result c.or_memory.result
          c.submit.ensures.submits (ap (submit_reply o) c.in-Err.is ∙ sym c.or_memory.ensures);
      calls = λ words. inl (c.submit.result, c.submit.ensures.calls);
      sayable = subst (λ (r : Result Reply EngineFault). IfOk r IsSayable) (sym c.or_memory.ensures) (sayable_or_memory c.in-Err.fault);
      said = c.submit.ensures.said;
      beside = c.submit.ensures.beside;
      honest = c.submit.ensures.honest;
      cause = or_memory_cause Submitted c.in-Err.fault c.or_memory.result (H.store_faults c.args.store.now) (H.store_faults c.submit.new.store) c.or_memory.ensures cause;
    }

pub returns-in-Ok-Accepted-clause-calls : goal.returns-in-Ok-Accepted-clause-calls
returns-in-Ok-Accepted-clause-calls g c = λ words. inl (c.submit.result, c.submit.ensures.calls)

pub returns-in-Ok-Refused-clause-calls : goal.returns-in-Ok-Refused-clause-calls
returns-in-Ok-Refused-clause-calls g c = λ words. inl (c.submit.result, c.submit.ensures.calls)
