use Rattle.std.proofs.Common.{◌∙◌, ap, sym, inr, List, ℕ, Ok, w16}
use Rattle.swf_record.specs.Decodes.{Reading, number_in, many_in, strand_in}
use Rattle.swf_record.proofs.Read.{passed_on, read, then_tells, again}
use Rattle.swf_record.proofs.reader.Reader.strand.Goals as goal

abbrev numbers : ℕ × List ℕ → Reading (List ℕ)
numbers n = many_in (number_in w16) n.0 n.1

pub returns-in_err-count : goal.returns-in_err-count
unfolding strand_in
returns-in_err-count c =
    passed_on (λ n. n) (λ s. s) c.from_residual.result c.in_err-count.field-0.0 c.two_bytes.new.self.rest.now (number_in w16 c.args.self.now.rest.now) numbers c.from_residual.ensures.1 c.in_err-count.ensures

pub returns-in_err-numbers : goal.returns-in_err-numbers
unfolding strand_in
returns-in_err-numbers c =
    let field = c.args.self.now.rest.now in
    let count = c.in_ok-count.count in
    let behind = c.two_bytes.new.self.rest.now in
    let number = read (λ n. n) count behind (number_in w16 field) c.in_ok-count.ensures in
    then_tells (λ s. s) c.from_residual-in_err-numbers.result c.numbers.new.self.rest.now (number_in w16 field) (count, behind) numbers number
    (again (λ v. v.items) (λ s. s) c.from_residual-in_err-numbers.result c.in_err-numbers.field-0.0 c.numbers.new.self.rest.now (numbers (count, behind)) c.from_residual-in_err-numbers.ensures.1 c.in_err-numbers.ensures)

pub returns : goal.returns
unfolding strand_in
returns c =
    let field = c.args.self.now.rest.now in
    let count = c.in_ok-count.count in
    let behind = c.two_bytes.new.self.rest.now in
    let number = read (λ n. n) count behind (number_in w16 field) c.in_ok-count.ensures in
    let last = read (λ v. v.items) c.in_ok-numbers.field-0 c.numbers.new.self.rest.now (numbers (count, behind)) c.in_ok-numbers.ensures in
    then_tells (λ s. s) (Ok c.of.result) c.numbers.new.self.rest.now (number_in w16 field) (count, behind) numbers number
    (inr (ap (λ s. Ok (s, c.numbers.new.self.rest.now)) c.of.ensures ∙ sym last))
