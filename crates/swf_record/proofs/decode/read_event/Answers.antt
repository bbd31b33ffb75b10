use Rattle.std.proofs.Common.{◌∙◌, ap, sym, inr, List, ℕ, Ok, Err, option_map}
use Rattle.swf_meaning.specs.declared.label.Label.{Label}
use Rattle.swf_meaning.specs.declared.label.Label.TheVariants.{Event}
use Rattle.swf_value.specs.Value.{Value}
use Rattle.swf_record.specs.Decodes.{Reading, meant, value_in, told_event, event_in}
use Rattle.swf_record.proofs.Read.{passed_on, read, then_tells}
use Rattle.swf_record.proofs.decode.read_event.Goals as goal

abbrev with_value : List ℕ → Value × List ℕ → Reading Label
with_value field v = meant field v.1 (option_map Event (told_event v.0))

pub returns-in_err-value : goal.returns-in_err-value
unfolding event_in
returns-in_err-value c =
    let field = c.args.reader.now.rest.now in
    passed_on (λ v. v) (λ l. l) c.from_residual.result c.in_err-value.field-0.0 c.value.new.self.rest.now (value_in 64 field) (with_value field) c.from_residual.ensures.1 c.in_err-value.ensures

pub returns-in-Some : goal.returns-in-Some
unfolding event_in
returns-in-Some c =
    let field = c.args.reader.now.rest.now in
    let value = c.in_ok-value.value in
    let behind = c.value.new.self.rest.now in
    then_tells (λ l. l) (Ok (Event c.in-Some.event)) behind (value_in 64 field) (value, behind) (with_value field) (read (λ v. v) value behind (value_in 64 field) c.in_ok-value.ensures)
    (inr (ap (λ o. meant field behind (option_map Event o)) (sym c.in-Some.is ∙ c.in_ok-event.ensures)))

pub returns : goal.returns
unfolding event_in
returns c =
    let field = c.args.reader.now.rest.now in
    let value = c.in_ok-value.value in
    let behind = c.value.new.self.rest.now in
    then_tells (λ l. l) (Err _) field (value_in 64 field) (value, behind) (with_value field) (read (λ v. v) value behind (value_in 64 field) c.in_ok-value.ensures)
    (inr (ap (λ o. meant field behind (option_map Event o)) (sym c.in-None.is ∙ c.in_ok-event.ensures)))
