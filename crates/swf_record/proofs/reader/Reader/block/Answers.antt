use Rattle.std.proofs.Common.{ap₂, inr, refl, List, ℕ, Ok, Err, w32, lt-ltb, le-ltb, length}
use Rattle.swf_record.specs.Decodes.{number_in, counted, block_in}
use Rattle.swf_record.proofs.Read.{passed_on, read, then_tells}
use Rattle.swf_record.proofs.reader.Reader.block.Goals as goal

pub returns-in_err-count : goal.returns-in_err-count
unfolding block_in
returns-in_err-count c =
    let field = c.args.self.now.rest.now in
    passed_on (λ n. n) (λ b. b.now) c.from_residual.result c.in_err-count.field-0.0 c.four_bytes.new.self.rest.now (number_in w32 field) (counted field) c.from_residual.ensures.1 c.in_err-count.ensures

pub returns-then-self-count : goal.returns-then-self-count
unfolding block_in
returns-then-self-count c =
    let field = c.args.self.now.rest.now in
    let count = c.in_ok-count.field-0 in
    let behind = c.four_bytes.new.self.rest.now in
    let number = read (λ n. n) count behind (number_in w32 field) c.in_ok-count.ensures in
    then_tells (λ b. b.now) (Err _) field (number_in w32 field) (count, behind) (counted field) number (inr (rw (lt-ltb (length behind) count c.if-self-count.true) refl))

pub returns : goal.returns
unfolding block_in
returns c =
    let field = c.args.self.now.rest.now in
    let count = c.in_ok-count.field-0 in
    let behind = c.four_bytes.new.self.rest.now in
    let number = read (λ n. n) count behind (number_in w32 field) c.in_ok-count.ensures in
    then_tells (λ b. b.now) (Ok c.split_at.result.0) c.split_at.result.1.now (number_in w32 field) (count, behind) (counted field) number
    (inr (rw (le-ltb (length behind) count c.if-self-count.false) (ap₂ (λ (x y : List ℕ). Ok (x, y)) c.split_at.ensures.front c.split_at.ensures.back)))
