use Rattle.std.proofs.Common.{[], Ok, Result, ap, refl, inl, inr, subst, sym}
use Rattle.swf_protocol.specs.declared.command.Command.TheVariants.{Do, Ask, Settle, Quit}
use Rattle.swf_protocol.specs.declared.reply.Reply.TheVariants.{Quit as Bye}
use Rattle.swf_turns.proofs.AnswerLemmas.{line_as, line_stays}
use Rattle.swf_turns.proofs.SettlingLemmas.{asks_none}
use Rattle.swf_protocol.specs.declared.command.Command.{Command}
use Rattle.swf_protocol.specs.declared.command.CommandFault.{CommandFault}
use Rattle.swf_turns.specs.StoreCalls.{CommandCalls}
use Rattle.swf_turns.proofs.FaultLemmas.{command_faults_as}
use Rattle.swf_turns.proofs.answer.obey.Goals as goal

pub returns-in-Do-clause-done : goal.returns-in-Do-clause-done
returns-in-Do-clause-done g c =
    let H = g.S.Store in (
      [],
      asks_none _ _,
      line_as c.args.words.now [] H.moment H.left_since H.said H.may_leave H.seen g.met.S.Store.only_now (Ok c.args.command) (Ok (Do c.in-Do.outcome)) c.args.store.now c.submit.new.store c.args.engine.now c.submit.new.engine c.submit.result c.submit.result
          (ap Ok c.in-Do.is) refl (c.submit.ensures.done c.args.words.now),
    )

pub returns-in-Ask-clause-done : goal.returns-in-Ask-clause-done
returns-in-Ask-clause-done g c =
    let H = g.S.Store in (
      [],
      asks_none _ _,
      line_as c.args.words.now [] H.moment H.left_since H.said H.may_leave H.seen g.met.S.Store.only_now (Ok c.args.command) (Ok (Ask c.in-Ask.query)) c.args.store.now c.ask.new.store c.args.engine.now c.ask.new.engine c.ask.result c.ask.result
          (ap Ok c.in-Ask.is) refl (c.ask.ensures.done c.args.words.now),
    )

pub returns-in-Settle-clause-done : goal.returns-in-Settle-clause-done
returns-in-Settle-clause-done g c =
    let H = g.S.Store in (
      c.settle.ensures.done.0,
      c.settle.ensures.done.1,
      line_as c.args.words.now c.settle.ensures.done.0 H.moment H.left_since H.said H.may_leave H.seen g.met.S.Store.only_now (Ok c.args.command) (Ok (Settle c.in-Settle.limit)) c.args.store.now c.settle.new.store c.args.engine.now c.settle.new.engine c.settle.result c.settle.result
          (ap Ok c.in-Settle.is) refl c.settle.ensures.done.2,
    )

pub returns-in-Quit-clause-done : goal.returns-in-Quit-clause-done
returns-in-Quit-clause-done g c =
    let H = g.S.Store in (
      [],
      asks_none _ _,
      line_as c.args.words.now [] H.moment H.left_since H.said H.may_leave H.seen g.met.S.Store.only_now (Ok c.args.command) (Ok Quit) c.args.store.now c.args.store.now c.args.engine.now c.args.engine.now (Ok Bye) (Ok Bye)
          (ap Ok c.in-Quit.is) refl
          (line_stays c.args.words.now [] H.moment H.left_since H.said H.may_leave H.seen g.met.S.Store.only_now (Ok Quit) c.args.store.now c.args.engine.now Bye (λ history is. inl (refl, refl))),
    )

pub returns-in-Do-clause-calls : goal.returns-in-Do-clause-calls
returns-in-Do-clause-calls g c =
    let H = g.S.Store in
    subst (λ (m : Result Command CommandFault). CommandCalls c.args.words.now H.moment H.left_since H.said H.may_leave H.seen H.calls m c.args.store.now c.submit.new.store c.args.engine.now c.submit.new.engine) (sym (ap Ok c.in-Do.is)) (c.submit.ensures.calls c.args.words.now)

pub returns-in-Ask-clause-calls : goal.returns-in-Ask-clause-calls
returns-in-Ask-clause-calls g c =
    let H = g.S.Store in
    subst (λ (m : Result Command CommandFault). CommandCalls c.args.words.now H.moment H.left_since H.said H.may_leave H.seen H.calls m c.args.store.now c.ask.new.store c.args.engine.now c.ask.new.engine) (sym (ap Ok c.in-Ask.is)) (c.ask.ensures.calls c.args.words.now)

pub returns-in-Settle-clause-calls : goal.returns-in-Settle-clause-calls
returns-in-Settle-clause-calls g c =
    let H = g.S.Store in
    subst (λ (m : Result Command CommandFault). CommandCalls c.args.words.now H.moment H.left_since H.said H.may_leave H.seen H.calls m c.args.store.now c.settle.new.store c.args.engine.now c.settle.new.engine) (sym (ap Ok c.in-Settle.is)) c.settle.ensures.calls

pub returns-in-Quit-clause-calls : goal.returns-in-Quit-clause-calls
returns-in-Quit-clause-calls g c = inr refl

pub returns-in-Do-clause-faults : goal.returns-in-Do-clause-faults
returns-in-Do-clause-faults g c =
    command_faults_as (g.S.Store.seen c.submit.new.store) (Ok c.args.command) (Ok (Do c.in-Do.outcome)) c.submit.result c.submit.result (ap Ok c.in-Do.is) refl c.submit.ensures.faults

pub returns-in-Ask-clause-faults : goal.returns-in-Ask-clause-faults
returns-in-Ask-clause-faults g c =
    command_faults_as (g.S.Store.seen c.ask.new.store) (Ok c.args.command) (Ok (Ask c.in-Ask.query)) c.ask.result c.ask.result (ap Ok c.in-Ask.is) refl c.ask.ensures.faults

pub returns-in-Settle-clause-faults : goal.returns-in-Settle-clause-faults
returns-in-Settle-clause-faults g c =
    command_faults_as (g.S.Store.seen c.settle.new.store) (Ok c.args.command) (Ok (Settle c.in-Settle.limit)) c.settle.result c.settle.result (ap Ok c.in-Settle.is) refl c.settle.ensures.faults

pub returns-in-Quit-clause-faults : goal.returns-in-Quit-clause-faults
returns-in-Quit-clause-faults g c = command_faults_as (g.S.Store.seen c.args.store.now) (Ok c.args.command) (Ok Quit) (Ok Bye) (Ok Bye) (ap Ok c.in-Quit.is) refl refl
