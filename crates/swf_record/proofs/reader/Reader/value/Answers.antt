use Rattle.std.proofs.Common.{◌∙◌, ap, sym, inr, List, ℕ, Ok, Err}
use Rattle.swf_value.specs.Value.{Value}
use Rattle.swf_record.specs.Decodes.{Reading, block_in, meant, compact, value_in}
use Rattle.swf_record.proofs.Read.{passed_on, read, then_tells}
use Rattle.swf_record.proofs.reader.Reader.value.Goals as goal

abbrev meaning : ℕ → List ℕ → List ℕ × List ℕ → Reading Value
meaning most field p = meant field p.1 (compact most p.0)

pub returns-in_err-bytes : goal.returns-in_err-bytes
unfolding value_in
returns-in_err-bytes c =
    let field = c.args.self.now.rest.now in
    passed_on (λ b. b.now) (λ v. v) c.from_residual.result c.in_err-bytes.field-0.0 c.block.new.self.rest.now (block_in field) (meaning c.args.depth field) c.from_residual.ensures.1 c.in_err-bytes.ensures

pub returns-in-Some : goal.returns-in-Some
unfolding value_in
returns-in-Some c =
    let field = c.args.self.now.rest.now in
    let bytes = c.in_ok-bytes.bytes in
    let behind = c.block.new.self.rest.now in
    let block = read (λ b. b.now) bytes behind (block_in field) c.in_ok-bytes.ensures in
    then_tells (λ v. v) (Ok c.in-Some.value) behind (block_in field) (bytes.now, behind) (meaning c.args.depth field) block
    (inr (ap (meant field behind) (sym c.in-Some.is ∙ c.in_ok-value.ensures)))

pub returns-in-None : goal.returns-in-None
unfolding value_in
returns-in-None c =
    let field = c.args.self.now.rest.now in
    let bytes = c.in_ok-bytes.bytes in
    let behind = c.block.new.self.rest.now in
    let block = read (λ b. b.now) bytes behind (block_in field) c.in_ok-bytes.ensures in
    then_tells (λ v. v) (Err _) field (block_in field) (bytes.now, behind) (meaning c.args.depth field) block
    (inr (ap (meant field behind) (sym c.in-None.is ∙ c.in_ok-value.ensures)))
