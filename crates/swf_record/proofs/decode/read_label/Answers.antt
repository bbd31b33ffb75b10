use Rattle.std.proofs.Common.{sym, inr, arith}
use Rattle.swf_record.specs.Decodes.{load_in, start_in, event_in, reply_in, moment_in, step_in, label_in}
use Rattle.swf_record.proofs.Read.{no_label, load_label, start_label, event_label, reply_label, moment_label, step_label, other_label, tells_same}
use Rattle.swf_record.proofs.decode.read_label.Goals as goal

pub returns-in_default : goal.returns-in_default
returns-in_default c = inr (sym (no_label c.args.reader.now.rest.now c.in_default.ensures.cases))

pub returns-in-1 : goal.returns-in-1
returns-in-1 c =
    let field = c.args.reader.now.rest.now in
    let rest = c.in-Some.rest.now in
    tells_same (λ l. l) c.read_load.result c.read_load.new.reader.rest.now (load_in rest) (label_in field) (load_label field rest c.in-Some.tag.now c.in-Some.ensures.cases.0 c.in-1.is) c.read_load.ensures

pub returns-in-2 : goal.returns-in-2
returns-in-2 c =
    let field = c.args.reader.now.rest.now in
    let rest = c.in-Some.rest.now in
    tells_same (λ l. l) c.read_start.result c.read_start.new.reader.rest.now (start_in rest) (label_in field) (start_label field rest c.in-Some.tag.now c.in-Some.ensures.cases.0 c.in-2.is) c.read_start.ensures

pub returns-in-3 : goal.returns-in-3
returns-in-3 c =
    let field = c.args.reader.now.rest.now in
    let rest = c.in-Some.rest.now in
    tells_same (λ l. l) c.read_event.result c.read_event.new.reader.rest.now (event_in rest) (label_in field) (event_label field rest c.in-Some.tag.now c.in-Some.ensures.cases.0 c.in-3.is) c.read_event.ensures

pub returns-in-4 : goal.returns-in-4
returns-in-4 c =
    let field = c.args.reader.now.rest.now in
    let rest = c.in-Some.rest.now in
    tells_same (λ l. l) c.read_answered.result c.read_answered.new.reader.rest.now (reply_in rest) (label_in field) (reply_label field rest c.in-Some.tag.now c.in-Some.ensures.cases.0 c.in-4.is) c.read_answered.ensures

pub returns-in-5 : goal.returns-in-5
returns-in-5 c =
    let field = c.args.reader.now.rest.now in
    let rest = c.in-Some.rest.now in
    tells_same (λ l. l) c.read_moment.result c.read_moment.new.reader.rest.now (moment_in rest) (label_in field) (moment_label field rest c.in-Some.tag.now c.in-Some.ensures.cases.0 c.in-5.is) c.read_moment.ensures

pub returns-in-6 : goal.returns-in-6
returns-in-6 c =
    let field = c.args.reader.now.rest.now in
    let rest = c.in-Some.rest.now in
    tells_same (λ l. l) c.read_step.result c.read_step.new.reader.rest.now (step_in rest) (label_in field) (step_label field rest c.in-Some.tag.now c.in-Some.ensures.cases.0 c.in-6.is) c.read_step.ensures

pub returns-in_default-tag : goal.returns-in_default-tag
returns-in_default-tag c =
    inr (sym (other_label c.args.reader.now.rest.now c.in-Some.rest.now c.in-Some.tag.now c.in-Some.ensures.cases.0 (λ e. omega arith) (λ e. omega arith) (λ e. omega arith) (λ e. omega arith) (λ e. omega arith) (λ e. omega arith)))
