-- A number that is out of range stays out of range where it goes on no further.
use Rattle.std.proofs.Common.{◌≡◌, ℤ, pos, negsuc, Option, Some, None, option_map, arith, refl}
use Rattle.std.proofs.lemmas.Bool.Decides.{nat_tests}
use Rattle.std.proofs.lemmas.Int.{ints}
use Rattle.swf_evaluation.specs.Builtins.{whole_or}
use Rattle.swf_jq_builtins.specs.Caps.{held}
use Rattle.swf_evaluation.specs.Operations.{Answer, whole}

pub whole_held_one : (z : ℤ) → whole (held z) ≡ whole z
whole_held_one (pos n) = grind (arith, ints, nat_tests)
whole_held_one (negsuc n) = grind (arith, ints, nat_tests)

pub whole_held : (other : Answer) (o : Option ℤ) → whole_or other (option_map held o) ≡ whole_or other o
whole_held other None = refl
whole_held other (Some z) = whole_held_one z
