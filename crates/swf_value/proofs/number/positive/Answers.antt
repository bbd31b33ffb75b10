use Rattle.std.proofs.Common.{◌≡◌, Some, false, arith}
use Rattle.serde_json.specs.Data.{unsigned}
use Rattle.serde_json.specs.Read.{number_from}
use Rattle.swf_value.proofs.number.positive.Goals as goal

pub returns-in-Some : goal.returns-in-Some
returns-in-Some c =
    let is : number_from false c.args.numeral.now ≡ Some (unsigned c.in-Some.value) = grind arith in
    (unsigned c.in-Some.value, is, c.in_range_unsigned.ensures)
