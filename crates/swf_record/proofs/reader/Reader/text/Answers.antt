use Rattle.std.proofs.Common.{◌≡◌, ◌∙◌, ap, inr, List, ℕ, Bool, true, false, refl, Some, None, Ok, Err, chars}
use Rattle.std.proofs.lemmas.Str.{IsUtf8-from_is_utf8, is_utf8-from_IsUtf8}
use Rattle.std.specs.Str.{is_utf8, IsUtf8}
use Rattle.swf_record.specs.Decodes.{Reading, block_in, meant, utf8, text_in}
use Rattle.swf_record.proofs.Read.{passed_on, read, then_tells}
use Rattle.swf_record.proofs.reader.Reader.text.Goals as goal

abbrev meaning : List ℕ → List ℕ × List ℕ → Reading (List ℕ)
meaning field p = meant field p.1 (utf8 p.0)

no_text : (b : List ℕ) (is : Bool) → is_utf8 b ≡ is → (IsUtf8 b → ⊥) → None ≡ utf8 b
no_text b true e refused = absurd (refused (IsUtf8-from_is_utf8 b e))
no_text b false e refused = rw e refl

pub returns-in_err-bytes : goal.returns-in_err-bytes
unfolding text_in
returns-in_err-bytes c =
    let field = c.args.self.now.rest.now in
    passed_on (λ b. b.now) (λ t. t) c.from_residual.result c.in_err-bytes.field-0.0 c.block.new.self.rest.now (block_in field) (meaning field) c.from_residual.ensures.1 c.in_err-bytes.ensures

pub returns-in_ok-copy_of-in-Ok : goal.returns-in_ok-copy_of-in-Ok
unfolding text_in
returns-in_ok-copy_of-in-Ok c =
    let field = c.args.self.now.rest.now in
    let bytes = c.in_ok-bytes.bytes in
    let behind = c.block.new.self.rest.now in
    let block = read (λ b. b.now) bytes behind (block_in field) c.in_ok-bytes.ensures in
    let here = c.in-Ok.ensures.cases in
    let copy : c.in_ok-copy_of-in-Ok.field-0 ≡ chars bytes.now = c.in_ok-copy_of-in-Ok.ensures ∙ ap chars here.0 in
    let text : Some c.in_ok-copy_of-in-Ok.field-0 ≡ utf8 bytes.now = rw (is_utf8-from_IsUtf8 bytes.now here.1) (ap Some copy) in
    then_tells (λ t. t) (Ok c.in_ok-copy_of-in-Ok.field-0) behind (block_in field) (bytes.now, behind) (meaning field) block
    (inr (ap (meant field behind) text))

pub returns-in-Err : goal.returns-in-Err
unfolding text_in
returns-in-Err c =
    let field = c.args.self.now.rest.now in
    let bytes = c.in_ok-bytes.bytes in
    let behind = c.block.new.self.rest.now in
    let block = read (λ b. b.now) bytes behind (block_in field) c.in_ok-bytes.ensures in
    then_tells (λ t. t) (Err _) field (block_in field) (bytes.now, behind) (meaning field) block
    (inr (ap (meant field behind) (no_text bytes.now (is_utf8 bytes.now) refl c.in-Err.ensures.cases.0)))
