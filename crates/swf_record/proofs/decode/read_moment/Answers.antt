use Rattle.std.proofs.Common.{inr, refl, Ok, Err, w64}
use Rattle.std.proofs.lemmas.Bool.{le-leb, lt-leb}
use Rattle.swf_meaning.specs.declared.label.Label.TheVariants.{Moment}
use Rattle.swf_record.specs.Encodes.{last_moment}
use Rattle.swf_record.specs.Decodes.{number_in, timed, moment_in}
use Rattle.swf_record.proofs.Read.{passed_on, read, then_tells}
use Rattle.swf_record.proofs.decode.read_moment.Goals as goal

pub returns-in_err-milliseconds : goal.returns-in_err-milliseconds
unfolding moment_in
returns-in_err-milliseconds c =
    let field = c.args.reader.now.rest.now in
    passed_on (λ n. n) (λ l. l) c.from_residual.result c.in_err-milliseconds.field-0.0 c.eight_bytes.new.self.rest.now (number_in w64 field) (timed field) c.from_residual.ensures.1 c.in_err-milliseconds.ensures

pub returns-then-milliseconds-le-LAST : goal.returns-then-milliseconds-le-LAST
unfolding moment_in
returns-then-milliseconds-le-LAST c =
    let field = c.args.reader.now.rest.now in
    let n = c.in_ok-milliseconds.milliseconds in
    let behind = c.eight_bytes.new.self.rest.now in
    then_tells (λ l. l) (Ok (Moment c.new.result)) behind (number_in w64 field) (n, behind) (timed field) (read (λ n. n) n behind (number_in w64 field) c.in_ok-milliseconds.ensures)
    (inr (rw (c.new.ensures, le-leb n last_moment c.if-milliseconds-le-LAST.true) refl))

pub returns-else-milliseconds-le-LAST : goal.returns-else-milliseconds-le-LAST
unfolding moment_in
returns-else-milliseconds-le-LAST c =
    let field = c.args.reader.now.rest.now in
    let n = c.in_ok-milliseconds.milliseconds in
    let behind = c.eight_bytes.new.self.rest.now in
    then_tells (λ l. l) (Err _) field (number_in w64 field) (n, behind) (timed field) (read (λ n. n) n behind (number_in w64 field) c.in_ok-milliseconds.ensures)
    (inr (rw (lt-leb n last_moment c.if-milliseconds-le-LAST.false) refl))
