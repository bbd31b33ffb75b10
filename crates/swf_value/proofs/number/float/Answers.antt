use Rattle.std.proofs.Common.{◌≡◌, refl, Some, arith}
use Rattle.std.specs.Float.{binary64}
use Rattle.fast_float.specs.Text.{nearest}
use Rattle.serde_json.specs.Data.{float}
use Rattle.serde_json.specs.Read.{float_of}
use Rattle.swf_value.proofs.number.float.Goals as goal

pub returns-then-is_finite : goal.returns-then-is_finite
returns-then-is_finite c =
    let x = nearest binary64 c.args.negative c.args.numeral.now in
    let is : float_of c.args.negative c.args.numeral.now ≡ Some (float x) = grind arith in
    (float x, is, (refl, tt))
