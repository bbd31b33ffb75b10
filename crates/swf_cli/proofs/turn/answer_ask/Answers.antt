use Rattle.std.proofs.Common.{rules, [], ◌≡◌, ap, sym, refl, subst, Bool, true, false, Option, Some, None, Result, Ok, if◌then◌else◌}
use Rattle.swf_protocol.specs.Line.{command_of}
use Rattle.swf_turns.specs.Dialect.{is_long, line_read}
use Rattle.swf_turns.specs.Steps.{reply_of}
use Rattle.swf_turns.proofs.SettlingLemmas.{asks_none}
use Rattle.swf_turns.proofs.TurnLemmas.{asked_short, asked_long}
use Rattle.swf_protocol.specs.declared.command.Command.{Command}
use Rattle.swf_protocol.specs.declared.command.CommandFault.{CommandFault}
use Rattle.swf_protocol.specs.declared.reply.Reply.TheVariants.{TooLong}
use Rattle.swf_turns.specs.Faults.{ReadFaults}
use Rattle.swf_turns.specs.StoreCalls.{ReadCalls}
use Rattle.swf_cli.proofs.turn.answer_ask.Goals as goal

pub returns-then-line-gt-MOST_LINE-clause-done : goal.returns-then-line-gt-MOST_LINE-clause-done
returns-then-line-gt-MOST_LINE-clause-done g c =
    let H = g.H.Store in
    let long : is_long c.args.line.now ≡ true = search rules in
    ([], asks_none _ _, asked_long c.args.words.now [] H.moment H.left_since H.said H.may_leave H.seen g.met.H.Store.only_now (line_read c.args.line.now) c.args.host.now c.args.engine.now (ap (λ (b : Bool). if b then None else Some (command_of c.args.line.now)) long))

pub returns-clause-done : goal.returns-clause-done
returns-clause-done g c =
    let H = g.H.Store in
    let short : is_long c.args.line.now ≡ false = search rules in (
      c.answer_line.ensures.done.0,
      c.answer_line.ensures.done.1,
      asked_short c.args.words.now c.answer_line.ensures.done.0 H.moment H.left_since H.said H.may_leave H.seen g.met.H.Store.only_now (command_of c.args.line.now) (line_read c.args.line.now) c.args.host.now c.answer_line.new.store c.args.engine.now c.answer_line.new.engine (reply_of c.answer_line.result)
          (ap (λ (b : Bool). if b then None else Some (command_of c.args.line.now)) short) c.answer_line.ensures.done.2,
    )

pub returns-then-line-gt-MOST_LINE-clause-calls : goal.returns-then-line-gt-MOST_LINE-clause-calls
returns-then-line-gt-MOST_LINE-clause-calls g c =
    let H = g.H.Store in
    let long : is_long c.args.line.now ≡ true = search rules in
    subst (λ (m : Option (Result Command CommandFault)). ReadCalls c.args.words.now H.moment H.left_since H.said H.may_leave H.seen H.calls m c.args.host.now c.args.host.now c.args.engine.now c.args.engine.now) (sym (ap (λ (b : Bool). if b then None else Some (command_of c.args.line.now)) long)) refl

pub returns-clause-calls : goal.returns-clause-calls
returns-clause-calls g c =
    let H = g.H.Store in
    let short : is_long c.args.line.now ≡ false = search rules in
    subst (λ (m : Option (Result Command CommandFault)). ReadCalls c.args.words.now H.moment H.left_since H.said H.may_leave H.seen H.calls m c.args.host.now c.answer_line.new.store c.args.engine.now c.answer_line.new.engine) (sym (ap (λ (b : Bool). if b then None else Some (command_of c.args.line.now)) short)) c.answer_line.ensures.calls

pub returns-then-line-gt-MOST_LINE-clause-faults : goal.returns-then-line-gt-MOST_LINE-clause-faults
returns-then-line-gt-MOST_LINE-clause-faults g c =
    let long : is_long c.args.line.now ≡ true = search rules in
    subst (λ (m : Option (Result Command CommandFault)). ReadFaults (g.H.Store.seen c.args.host.now) m (Ok TooLong)) (sym (ap (λ (b : Bool). if b then None else Some (command_of c.args.line.now)) long)) refl

pub returns-clause-faults : goal.returns-clause-faults
returns-clause-faults g c =
    let short : is_long c.args.line.now ≡ false = search rules in
    subst (λ (m : Option (Result Command CommandFault)). ReadFaults (g.H.Store.seen c.answer_line.new.store) m (reply_of c.answer_line.result)) (sym (ap (λ (b : Bool). if b then None else Some (command_of c.args.line.now)) short)) c.answer_line.ensures.faults
