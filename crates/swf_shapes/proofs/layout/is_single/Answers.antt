use Rattle.std.proofs.Common.{◌≡◌, ◌==◌, List, [], ◌∷◌, length, refl, arith}
use Rattle.std.proofs.lemmas.Bool.Decides.{nat_tests}
use Rattle.swf_value.specs.declared.value.Member.{Member}
use Rattle.swf_value.specs.Node.{members_of}
use Rattle.swf_shapes.specs.Layout.{single}
use Rattle.swf_shapes.proofs.layout.is_single.Goals as goal

single_is : (ms : List Member) → (length ms == 1) ≡ single (members_of ms)
single_is [] = refl
single_is (m ∷ []) = refl
single_is (m ∷ n ∷ ms) = grind (arith, nat_tests)

pub returns : goal.returns
returns c = single_is c.args.members.now
