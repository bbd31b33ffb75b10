use Rattle.std.proofs.Common.{◌≡◌, ◌∙◌, sym, subst, inr, Some}
use Rattle.serde_json.specs.Read.{read}
use Rattle.swf_value.specs.Read.{read_within}
use Rattle.swf_value.proofs.Depths.{read_shallow}
use Rattle.swf_value.proofs.Readings.{not_json, read_is}
use Rattle.swf_value.proofs.read.read_json_within.Goals as goal

pub returns-in_default-clause-read : goal.returns-in_default-clause-read
returns-in_default-clause-read c = inr (sym (not_json c.args.depth c.args.bytes.now (λ utf8. absurd (c.in_default.ensures.cases.0 utf8))))

as_read : (c : goal.After-value_within) → c.value_within.result ≡ read_within c.args.depth c.args.bytes.now
as_read c =
    let found = rw c.in-Ok-Some.field-0-is at c.in-Ok-Some.ensures in
    let text = c.in-Ok.ensures.cases in
    let read_bytes = subst (λ bytes. read bytes ≡ Some found.0) text.0 found.1 in
    (c.value_within.ensures found.0 found.2).0 ∙ sym (read_is c.args.depth c.args.bytes.now found.0 (text.1, read_bytes))

pub returns-in-Ok-Some-clause-read : goal.returns-in-Ok-Some-clause-read
returns-in-Ok-Some-clause-read c = inr (as_read c)

pub returns-in-Ok-Some-clause-shallow : goal.returns-in-Ok-Some-clause-shallow
returns-in-Ok-Some-clause-shallow c = read_shallow c.args.depth c.args.bytes.now c.value_within.result (as_read c)
