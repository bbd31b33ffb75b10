use Rattle.std.proofs.Common.{inr, refl, List, ℕ, Ok}
use Rattle.swf_meaning.specs.declared.label.Label.{Label}
use Rattle.swf_meaning.specs.declared.label.Label.TheVariants.{Step}
use Rattle.swf_record.specs.Decodes.{Reading, ◌>>=◌, text_in, strand_in, step_in}
use Rattle.swf_record.proofs.Read.{passed_on, read, then_tells}
use Rattle.swf_record.proofs.decode.read_step.Goals as goal

abbrev with_strand : List ℕ → List ℕ × List ℕ → Reading Label
with_strand id s = Ok (Step id s.0, s.1)

abbrev with_id : List ℕ × List ℕ → Reading Label
with_id id = strand_in id.1 >>= with_strand id.0

pub returns-in_err-id : goal.returns-in_err-id
unfolding step_in
returns-in_err-id c =
    passed_on (λ t. t) (λ l. l) c.from_residual.result c.in_err-id.field-0.0 c.text.new.self.rest.now (text_in c.args.reader.now.rest.now) with_id c.from_residual.ensures.1 c.in_err-id.ensures

pub returns-in_err-strand : goal.returns-in_err-strand
unfolding step_in
returns-in_err-strand c =
    let field = c.args.reader.now.rest.now in
    let id = c.in_ok-id.id in
    let behind_id = c.text.new.self.rest.now in
    let behind = c.strand.new.self.rest.now in
    let result = c.from_residual-in_err-strand.result in
    then_tells (λ l. l) result behind (text_in field) (id, behind_id) with_id (read (λ t. t) id behind_id (text_in field) c.in_ok-id.ensures)
    (passed_on (λ s. s) (λ l. l) result c.in_err-strand.field-0.0 behind (strand_in behind_id) (with_strand id) c.from_residual-in_err-strand.ensures.1 c.in_err-strand.ensures)

pub returns : goal.returns
unfolding step_in
returns c =
    let field = c.args.reader.now.rest.now in
    let id = c.in_ok-id.id in
    let behind_id = c.text.new.self.rest.now in
    let s = c.in_ok-strand.strand in
    let behind = c.strand.new.self.rest.now in
    then_tells (λ l. l) (Ok (Step id s)) behind (text_in field) (id, behind_id) with_id (read (λ t. t) id behind_id (text_in field) c.in_ok-id.ensures)
    (then_tells (λ l. l) (Ok (Step id s)) behind (strand_in behind_id) (s, behind) (with_strand id) (read (λ s. s) s behind (strand_in behind_id) c.in_ok-strand.ensures) (inr refl))
