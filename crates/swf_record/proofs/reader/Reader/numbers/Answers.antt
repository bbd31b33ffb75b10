use Rattle.std.proofs.Common.{◌≡◌, ◌∙◌, ◌+◌, ◌-◌, ap, sym, subst, inr, suc, w16, arith}
use Rattle.swf_record.specs.Decodes.{number_in, many_in}
use Rattle.swf_record.specs.Told.{Tells}
use Rattle.swf_record.proofs.Read.{read, in_front, one_more, no_more, all_read}
use Rattle.swf_record.proofs.reader.Reader.numbers.Goals as goal

pub returns-in_err-number : goal.returns-in_err-number
returns-in_err-number c =
    let behind = c.two_bytes.new.self.rest.now in
    let left : c.args.count - c.loop.counter ≡ suc (c.args.count - (c.loop.counter + 1)) = omega arith in
    subst (Tells (λ v. v.items) c.from_residual.result behind) (sym c.loop.invariant)
    (no_more (number_in w16) (λ n. n) (λ v. v.items) c.from_residual.result c.in_err-number.field-0.0 c.loop.numbers.items (c.args.count - c.loop.counter) (c.args.count - (c.loop.counter + 1)) c.loop.self.rest.now behind left c.from_residual.ensures.1 c.in_err-number.ensures)

pub loop-preserved : goal.loop-preserved
loop-preserved c =
    let behind = c.two_bytes.new.self.rest.now in
    let number = c.in_ok-number.number in
    let left : c.args.count - c.loop.counter ≡ suc (c.args.count - (c.loop.counter + 1)) = omega arith in
    let here = read (λ n. n) number behind (number_in w16 c.loop.self.rest.now) c.in_ok-number.ensures in
    c.loop.invariant ∙ one_more (number_in w16) c.loop.numbers.items number (c.args.count - c.loop.counter) (c.args.count - (c.loop.counter + 1)) c.loop.self.rest.now behind left here
    ∙ ap (λ xs. in_front xs (many_in (number_in w16) (c.args.count - (c.loop.counter + 1)) behind)) (sym c.in_ok-push.ensures.items)

pub returns : goal.returns
returns c =
    let none : c.args.count - c.loop.counter ≡ 0 = omega arith in
    inr (sym (c.loop.invariant ∙ all_read (number_in w16) c.loop.numbers.items (c.args.count - c.loop.counter) c.loop.self.rest.now none))
