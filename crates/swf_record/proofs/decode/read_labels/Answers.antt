use Rattle.std.proofs.Common.{◌≡◌, ◌∙◌, ◌+◌, ◌-◌, ap, sym, subst, inr, suc, arith}
use Rattle.swf_record.specs.Decodes.{label_in, many_in}
use Rattle.swf_record.specs.Told.{Tells}
use Rattle.swf_record.proofs.Read.{read, in_front, one_more, no_more, all_read}
use Rattle.swf_record.proofs.decode.read_labels.Goals as goal

pub returns-in_err-label : goal.returns-in_err-label
returns-in_err-label c =
    let behind = c.read_label.new.reader.rest.now in
    let left : c.args.count - c.loop.counter ≡ suc (c.args.count - (c.loop.counter + 1)) = omega arith in
    subst (Tells (λ v. v.items) c.from_residual.result behind) (sym c.loop.invariant)
    (no_more label_in (λ l. l) (λ v. v.items) c.from_residual.result c.in_err-label.field-0.0 c.loop.labels.items (c.args.count - c.loop.counter) (c.args.count - (c.loop.counter + 1)) c.loop.reader.rest.now behind left c.from_residual.ensures.1 c.in_err-label.ensures)

pub loop-preserved : goal.loop-preserved
loop-preserved c =
    let behind = c.read_label.new.reader.rest.now in
    let label = c.in_ok-label.label in
    let left : c.args.count - c.loop.counter ≡ suc (c.args.count - (c.loop.counter + 1)) = omega arith in
    let here = read (λ l. l) label behind (label_in c.loop.reader.rest.now) c.in_ok-label.ensures in
    c.loop.invariant ∙ one_more label_in c.loop.labels.items label (c.args.count - c.loop.counter) (c.args.count - (c.loop.counter + 1)) c.loop.reader.rest.now behind left here
    ∙ ap (λ xs. in_front xs (many_in label_in (c.args.count - (c.loop.counter + 1)) behind)) (sym c.in_ok-push.ensures.items)

pub returns : goal.returns
returns c =
    let none : c.args.count - c.loop.counter ≡ 0 = omega arith in
    inr (sym (c.loop.invariant ∙ all_read label_in c.loop.labels.items (c.args.count - c.loop.counter) c.loop.reader.rest.now none))
