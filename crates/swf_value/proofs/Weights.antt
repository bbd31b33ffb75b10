-- What stands in a list or an object weighs no more than all of it.
use Rattle.std.proofs.Common.{◌≡◌, ℕ, zero, suc, ◌<◌, ◌≤◌, List, [], ◌∷◌, length, get_or, ap, arith}
use Rattle.swf_value.specs.Value.{Value}
use Rattle.swf_value.specs.Node.{items_of, members_of, weight, weight_items, weight_members}
use Rattle.swf_value.specs.declared.value.Member.{Member}

pub weight_item : (ds : List Value) (i : ℕ) (d : Value) → i < length ds → d ≡ get_or ds i d → weight d ≤ weight_items (items_of ds)
weight_item [] i d h e = absurd (omega arith)
weight_item (x ∷ xs) zero d h e = omega (arith, ap weight e)
weight_item (x ∷ xs) (suc i) d h e = omega (arith, weight_item xs i d (omega arith) e)

pub weight_member : (ms : List Member) (i : ℕ) (m : Member) → i < length ms → m ≡ get_or ms i m → weight m.value ≤ weight_members (members_of ms)
weight_member [] i m h e = absurd (omega arith)
weight_member (x ∷ xs) zero m h e = omega (arith, ap (λ n. weight n.value) e)
weight_member (x ∷ xs) (suc i) m h e = omega (arith, weight_member xs i m (omega arith) e)
