-- Lists that stand for the same are the same.
use Rattle.std.proofs.Common.{◌≡◌, List, [], ◌∷◌, refl}
use Rattle.swf_value.specs.Node.{members_of}
use Rattle.swf_value.specs.declared.value.Member.{Member}

pub members_of_one : (a b : List Member) → members_of a ≡ members_of b → a ≡ b
members_of_one [] [] p = refl
members_of_one (m ∷ ms) (n ∷ ns) p =
    let k : m.name ≡ n.name = cc in
    let v : m.value ≡ n.value = cc in
    let r : ms ≡ ns = members_of_one ms ns cc in λ i. record { name = k i; value = v i } ∷ r i
members_of_one a b p = cc
