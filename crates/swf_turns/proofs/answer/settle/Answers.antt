use Rattle.std.proofs.Common.{[], inl, ◌≡◌, sym, subst, ◌∙◌, ℕ, unwrap_or, Ok, Result, ap, arith}
use Rattle.std.specs.Result.{IfOk}
use Rattle.swf_engine.specs.declared.settle.Settled.{Settled}
use Rattle.swf_engine.specs.declared.fault.EngineFault.{EngineFault}
use Rattle.swf_engine.specs.Answers.{Settles}
use Rattle.swf_engine.specs.Causes.{EngineCause, WhereUsable}
use Rattle.swf_engine.specs.Core.{IsEngineOf}
use Rattle.swf_protocol.specs.Sayable.{IsSayable}
use Rattle.swf_protocol.specs.declared.reply.Reply.{Reply}
use Rattle.swf_turns.specs.Faults.{MayAddFault}
use Rattle.swf_turns.specs.Steps.{IsBreak}
use Rattle.swf_turns.proofs.AnswerLemmas.{settled_reply, settle_line_as, limit_small, settle_breaks, settle_faults, or_memory_usable, or_memory_cause, sayable_or_memory, settled_sayable}
use Rattle.swf_turns.proofs.answer.settle.Goals as goal

pub returns-in-Ok-clause-done : goal.returns-in-Ok-clause-done
returns-in-Ok-clause-done g c =
    let H = g.S.Store in
    let most_is : c.unwrap_or-most.result ≡ unwrap_or c.args.limit c.args.words.now.steps = c.unwrap_or-most.ensures ∙ ap (λ (n : ℕ). unwrap_or c.args.limit n) c.from.ensures in (
      c.settle.ensures.settles.0,
      c.settle.ensures.settles.1,
      settle_line_as c.args.words.now c.settle.ensures.settles.0 H.moment H.left_since H.said H.may_leave H.seen g.met.S.Store.only_now H.calls c.args.limit c.unwrap_or-most.result c.args.store.now c.settle.new.store c.args.engine.now c.settle.new.self c.settle.result (Ok c.settled_reply.result)
          most_is c.settle.ensures.settles.2 (ap (settled_reply c.unwrap_or-most.result) c.in-Ok.is ∙ ap Ok (sym c.settled_reply.ensures)),
    )

pub returns-in-Ok-clause-sayable : goal.returns-in-Ok-clause-sayable
returns-in-Ok-clause-sayable g c =
    let H = g.S.Store in
    let most_is : c.unwrap_or-most.result ≡ unwrap_or c.args.limit c.args.words.now.steps = c.unwrap_or-most.ensures ∙ ap (λ (n : ℕ). unwrap_or c.args.limit n) c.from.ensures in
    let s = subst (λ (r : Result Settled EngineFault). Settles H.moment H.left_since H.said H.may_leave H.seen H.calls c.args.words.now.http c.settle.ensures.settles.0 c.args.store.now c.settle.new.store c.args.engine.now c.settle.new.self c.unwrap_or-most.result r) c.in-Ok.is c.settle.ensures.settles.2 in
    let most = s.1 in
    subst IsSayable (sym c.settled_reply.ensures) (settled_sayable c.in-Ok.settled.quiet c.in-Ok.settled.steps c.unwrap_or-most.result (limit_small c.args.words.now [] c.args.limit c.unwrap_or-most.result most_is c.requires.words c.requires.modest) (λ e. omega (arith, most)))

pub returns-in-Err : goal.returns-in-Err
returns-in-Err g c =
    let H = g.S.Store in
    let most_is : c.unwrap_or-most.result ≡ unwrap_or c.args.limit c.args.words.now.steps = c.unwrap_or-most.ensures ∙ ap (λ (n : ℕ). unwrap_or c.args.limit n) c.from.ensures in
    let usable = subst (λ (r : Result Settled EngineFault). WhereUsable r (IsEngineOf (H.seen c.settle.new.store) c.settle.new.self)) c.in-Err.is c.settle.ensures.place in
    let cause = subst (λ (r : Result Settled EngineFault). EngineCause (H.store_faults c.args.store.now) (H.store_faults c.settle.new.store) r) c.in-Err.is c.settle.ensures.cause in
    let settles = subst (λ (r : Result Settled EngineFault). Settles H.moment H.left_since H.said H.may_leave H.seen H.calls c.args.words.now.http c.settle.ensures.settles.0 c.args.store.now c.settle.new.store c.args.engine.now c.settle.new.self c.unwrap_or-most.result r) c.in-Err.is c.settle.ensures.settles.2 in
    record {
      which = subst (λ (r : Result Reply EngineFault). IsBreak r) (sym c.or_memory.ensures)
          (settle_breaks H.moment H.left_since H.said H.may_leave H.seen g.met.S.Store.only_now H.calls c.args.words.now.http c.settle.ensures.settles.0 c.unwrap_or-most.result c.args.store.now c.settle.new.store c.args.engine.now c.settle.new.self c.in-Err.fault settles);
      faults = subst MayAddFault (sym c.or_memory.ensures)
          (settle_faults H.moment H.left_since H.said H.may_leave H.seen g.met.S.Store.only_now H.calls c.args.words.now.http c.settle.ensures.settles.0 c.unwrap_or-most.result c.args.store.now c.settle.new.store c.args.engine.now c.settle.new.self c.in-Err.fault settles);
      place = or_memory_usable Settled c.in-Err.fault c.or_memory.result (IsEngineOf (H.seen c.settle.new.store) c.settle.new.self) c.or_memory.ensures usable;
      done = (
        c.settle.ensures.settles.0,
        c.settle.ensures.settles.1,
        settle_line_as c.args.words.now c.settle.ensures.settles.0 H.moment H.left_since H.said H.may_leave H.seen g.met.S.Store.only_now H.calls c.args.limit c.unwrap_or-most.result c.args.store.now c.settle.new.store c.args.engine.now c.settle.new.self c.settle.result c.or_memory.result
            most_is c.settle.ensures.settles.2 (ap (settled_reply c.unwrap_or-most.result) c.in-Err.is ∙ sym c.or_memory.ensures),
      );
      calls = inl (c.settle.result, c.settle.ensures.settles.0, subst (λ (n : ℕ). Settles H.moment H.left_since H.said H.may_leave H.seen H.calls c.args.words.now.http c.settle.ensures.settles.0 c.args.store.now c.settle.new.store c.args.engine.now c.settle.new.self n c.settle.result) most_is c.settle.ensures.settles.2);
      by_hand = c.settle.ensures.by_hand;
      sayable = subst (λ (r : Result Reply EngineFault). IfOk r IsSayable) (sym c.or_memory.ensures) (sayable_or_memory c.in-Err.fault);
      said = c.settle.ensures.said;
      beside = c.settle.ensures.beside;
      honest = c.settle.ensures.honest;
      cause = or_memory_cause Settled c.in-Err.fault c.or_memory.result (H.store_faults c.args.store.now) (H.store_faults c.settle.new.store) c.or_memory.ensures cause;
    }

pub returns-in-Ok-clause-calls : goal.returns-in-Ok-clause-calls
returns-in-Ok-clause-calls g c =
    let H = g.S.Store in
    let most_is : c.unwrap_or-most.result ≡ unwrap_or c.args.limit c.args.words.now.steps = c.unwrap_or-most.ensures ∙ ap (λ (n : ℕ). unwrap_or c.args.limit n) c.from.ensures in
    inl (c.settle.result, c.settle.ensures.settles.0, subst (λ (n : ℕ). Settles H.moment H.left_since H.said H.may_leave H.seen H.calls c.args.words.now.http c.settle.ensures.settles.0 c.args.store.now c.settle.new.store c.args.engine.now c.settle.new.self n c.settle.result) most_is c.settle.ensures.settles.2)
