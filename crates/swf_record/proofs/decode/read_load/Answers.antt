use Rattle.std.proofs.Common.{inr, refl, List, ℕ, Ok}
use Rattle.swf_meaning.specs.declared.label.Label.{Label}
use Rattle.swf_meaning.specs.declared.label.Label.TheVariants.{Load}
use Rattle.swf_value.specs.Value.{Value}
use Rattle.swf_record.specs.Decodes.{Reading, value_in, load_in}
use Rattle.swf_record.proofs.Read.{passed_on, read, then_tells}
use Rattle.swf_record.proofs.decode.read_load.Goals as goal

abbrev loaded : Value × List ℕ → Reading Label
loaded v = Ok (Load v.0, v.1)

pub returns-in_err-value : goal.returns-in_err-value
unfolding load_in
returns-in_err-value c =
    passed_on (λ v. v) (λ l. l) c.from_residual.result c.in_err-value.field-0.0 c.value.new.self.rest.now (value_in 64 c.args.reader.now.rest.now) loaded c.from_residual.ensures.1 c.in_err-value.ensures

pub returns : goal.returns
unfolding load_in
returns c =
    let v = c.in_ok-value.field-0 in
    let behind = c.value.new.self.rest.now in
    let value = read (λ v. v) v behind (value_in 64 c.args.reader.now.rest.now) c.in_ok-value.ensures in
    then_tells (λ l. l) (Ok (Load v)) behind (value_in 64 c.args.reader.now.rest.now) (v, behind) loaded value (inr refl)
