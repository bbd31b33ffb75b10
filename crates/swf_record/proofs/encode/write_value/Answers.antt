use Rattle.std.proofs.Common.{◌≡◌, ◌∙◌, ap, subst, ◌<◌, ◌^◌, ◌++◌, List, ℕ, length}
use Rattle.std.proofs.lemmas.Result.{on_ok_weaker}
use Rattle.swf_value.specs.Written.{written}
use Rattle.swf_record.proofs.Fields.{read_again}
use Rattle.swf_record.proofs.encode.write_value.Goals as goal

pub returns-clause-fits : goal.returns-clause-fits
returns-clause-fits c =
    let v = c.args.value.now in
    let text : c.as_slice.result.now ≡ written v = c.as_slice.ensures.value ∙ c.in_ok-write_json.ensures.ok ∙ ap (λ (xs : List ℕ). xs ++ written v) c.new-text.ensures.items in
    on_ok_weaker c.write_block.result
    (λ (short : length c.as_slice.result.now < 2 ^ 32). λ most below nests. record { short = subst (λ b. length b < 2 ^ 32) text short; again = read_again most v below c.in_ok-write_json.ensures.value nests })
    c.write_block.ensures.short
