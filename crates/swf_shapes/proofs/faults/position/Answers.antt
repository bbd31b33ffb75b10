use Rattle.std.proofs.Common.{rules, ◌≡◌, ◌∙◌, ap, chars, decimal, arith}
use Rattle.std.specs.String.{string_bytes}
use Rattle.std.proofs.lemmas.Fmt.{IsAscii-decimal}
use Rattle.std.proofs.lemmas.Str.{chars-IsAscii}
use Rattle.swf_shapes.proofs.faults.position.Goals as goal

pub returns : goal.returns
returns c =
    let i = c.args.index in
    let written : string_bytes c.in_ok-digits.digits ≡ decimal i = search rules in
    c.in_ok-text.ensures ∙ ap chars written ∙ chars-IsAscii (decimal i) (IsAscii-decimal i (omega (arith, c.ranges.index)))
