use Rattle.std.proofs.Common.{subst, sym, [], None, Ok, Err, Result, inr, refl}
use Rattle.swf_protocol.specs.Line.{command_of}
use Rattle.swf_protocol.specs.declared.reply.Reply.{Reply}
use Rattle.swf_turns.specs.Turns.{CommandTurn}
use Rattle.swf_turns.proofs.AnswerLemmas.{line_as, line_stays, read_line_is, unread_turn}
use Rattle.swf_turns.proofs.SettlingLemmas.{asks_none}
use Rattle.swf_protocol.specs.declared.command.Command.{Command}
use Rattle.swf_protocol.specs.declared.command.CommandFault.{CommandFault}
use Rattle.swf_turns.specs.StoreCalls.{CommandCalls}
use Rattle.swf_turns.specs.Faults.{CommandFaults}
use Rattle.swf_turns.proofs.FaultLemmas.{command_faults_as, unread_faults}
use Rattle.swf_turns.proofs.answer.answer_line.Goals as goal

pub returns-in-Ok-obey-clause-done : goal.returns-in-Ok-obey-clause-done
returns-in-Ok-obey-clause-done g c =
    let H = g.S.Store in
    let line = command_of c.args.line.now in
    let reads = read_line_is c.read_command.result line c.in-Ok.command c.in-Ok.is c.read_command.ensures.reads in (
      c.obey.ensures.done.0,
      c.obey.ensures.done.1,
      line_as c.args.words.now c.obey.ensures.done.0 H.moment H.left_since H.said H.may_leave H.seen g.met.S.Store.only_now line (Ok c.in-Ok.command) c.args.store.now c.obey.new.store c.args.engine.now c.obey.new.engine c.obey.result (Ok c.in-Ok-obey.reply)
          reads c.in-Ok-obey.is c.obey.ensures.done.2,
    )

pub returns-in-Err-obey-clause-done : goal.returns-in-Err-obey-clause-done
returns-in-Err-obey-clause-done g c =
    let H = g.S.Store in
    let line = command_of c.args.line.now in
    let reads = read_line_is c.read_command.result line c.in-Ok.command c.in-Ok.is c.read_command.ensures.reads in (
      c.obey.ensures.done.0,
      c.obey.ensures.done.1,
      line_as c.args.words.now c.obey.ensures.done.0 H.moment H.left_since H.said H.may_leave H.seen g.met.S.Store.only_now line (Ok c.in-Ok.command) c.args.store.now c.obey.new.store c.args.engine.now c.obey.new.engine c.obey.result (Err c.in-Err-obey.fault)
          reads c.in-Err-obey.is c.obey.ensures.done.2,
    )

pub returns-in-Err-clause-done : goal.returns-in-Err-clause-done
returns-in-Err-clause-done g c =
    let H = g.S.Store in
    let words = c.args.words.now in
    let line = command_of c.args.line.now in (
      [],
      asks_none _ _,
      line_stays words [] H.moment H.left_since H.said H.may_leave H.seen g.met.S.Store.only_now line c.args.store.now c.args.engine.now c.unread.result
          (λ history is. subst (λ (r : Reply). CommandTurn words None [] history line [] r) (sym c.unread.ensures.reply)
          (unread_turn words [] history line c.read_command.result c.in-Err.fault c.in-Err.is c.read_command.ensures.reads c.read_command.ensures.memory)),
    )

pub returns-in-Ok-obey-clause-calls : goal.returns-in-Ok-obey-clause-calls
returns-in-Ok-obey-clause-calls g c =
    let H = g.S.Store in
    let reads = read_line_is c.read_command.result (command_of c.args.line.now) c.in-Ok.command c.in-Ok.is c.read_command.ensures.reads in
    subst (λ (m : Result Command CommandFault). CommandCalls c.args.words.now H.moment H.left_since H.said H.may_leave H.seen H.calls m c.args.store.now c.obey.new.store c.args.engine.now c.obey.new.engine) (sym reads) c.obey.ensures.calls

pub returns-in-Err-obey-clause-calls : goal.returns-in-Err-obey-clause-calls
returns-in-Err-obey-clause-calls g c =
    let H = g.S.Store in
    let reads = read_line_is c.read_command.result (command_of c.args.line.now) c.in-Ok.command c.in-Ok.is c.read_command.ensures.reads in
    subst (λ (m : Result Command CommandFault). CommandCalls c.args.words.now H.moment H.left_since H.said H.may_leave H.seen H.calls m c.args.store.now c.obey.new.store c.args.engine.now c.obey.new.engine) (sym reads) c.obey.ensures.calls

pub returns-in-Err-clause-calls : goal.returns-in-Err-clause-calls
returns-in-Err-clause-calls g c = inr refl

pub returns-in-Ok-obey-clause-faults : goal.returns-in-Ok-obey-clause-faults
returns-in-Ok-obey-clause-faults g c =
    let line = command_of c.args.line.now in
    let reads = read_line_is c.read_command.result line c.in-Ok.command c.in-Ok.is c.read_command.ensures.reads in
    command_faults_as (g.S.Store.seen c.obey.new.store) line (Ok c.in-Ok.command) c.obey.result (Ok c.in-Ok-obey.reply) reads c.in-Ok-obey.is c.obey.ensures.faults

pub returns-in-Err-obey-clause-faults : goal.returns-in-Err-obey-clause-faults
returns-in-Err-obey-clause-faults g c =
    let line = command_of c.args.line.now in
    let reads = read_line_is c.read_command.result line c.in-Ok.command c.in-Ok.is c.read_command.ensures.reads in
    command_faults_as (g.S.Store.seen c.obey.new.store) line (Ok c.in-Ok.command) c.obey.result (Err c.in-Err-obey.fault) reads c.in-Err-obey.is c.obey.ensures.faults

pub returns-in-Err-clause-faults : goal.returns-in-Err-clause-faults
returns-in-Err-clause-faults g c =
    let held = g.S.Store.seen c.args.store.now in
    let line = command_of c.args.line.now in
    subst (λ (r : Reply). CommandFaults held line (Ok r)) (sym c.unread.ensures.reply) (unread_faults held line c.read_command.result c.in-Err.fault c.in-Err.is c.read_command.ensures.reads)
