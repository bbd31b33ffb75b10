use Rattle.std.proofs.Common.{◌≡◌, ◌∙◌, ℕ, List, IfOk, ap, subst, chars, string_bytes, to_z-of_z, arith}
use Rattle.std.specs.Fmt.{signed_decimal}
use Rattle.std.proofs.lemmas.Fmt.{IsAscii-signed}
use Rattle.std.proofs.lemmas.Str.{chars-IsAscii}
use Rattle.swf_transform.proofs.escapes.digits.Goals as goal

pub returns : goal.returns
returns c =
    let bytes : string_bytes c.in_ok-format.field-0 ≡ signed_decimal c.args.number = c.in_ok-format.ensures.ok ∙ ap signed_decimal (to_z-of_z c.ranges.number) in
    let spelt = ap chars bytes ∙ chars-IsAscii (signed_decimal c.args.number) (IsAscii-signed c.args.number (omega (arith, c.ranges.number.sfits))) in
    subst (λ (x : List ℕ). IfOk c.from_string.result (λ t. t ≡ x)) spelt c.from_string.ensures
