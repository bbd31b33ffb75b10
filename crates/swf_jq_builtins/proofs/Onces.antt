-- Leaving out what equals the value before.
use Rattle.std.proofs.Common.{◌≡◌, List, [], ◌∷◌, ap, refl, Bool, true, false, cond}
use Rattle.std.specs.List.{dedup, dedup_from}
use Rattle.swf_value.specs.Value.{Value}
use Rattle.swf_evaluation.specs.Builtins.{once, once_after}
use Rattle.swf_evaluation.specs.Operations.{is_same}

abbrev pub equals_before : Value → Value → Bool
equals_before v k = is_same k v

kept_by : (k v : Value) (vs : List Value) (b : Bool) → dedup_from equals_before k vs ≡ k ∷ once_after k vs → dedup_from equals_before v vs ≡ v ∷ once_after v vs
    → cond b (dedup_from equals_before k vs) (k ∷ dedup_from equals_before v vs) ≡ k ∷ cond b (once_after k vs) (v ∷ once_after v vs)
kept_by k v vs true e f = e
kept_by k v vs false e f = ap (λ l. k ∷ l) f

kept_from : (k : Value) (vs : List Value) → dedup_from equals_before k vs ≡ k ∷ once_after k vs
kept_from k [] = refl
kept_from k (v ∷ vs) = kept_by k v vs (is_same k v) (kept_from k vs) (kept_from v vs)

pub dedup_is : (vs : List Value) → dedup equals_before vs ≡ once vs
dedup_is [] = refl
dedup_is (v ∷ vs) = kept_from v vs
