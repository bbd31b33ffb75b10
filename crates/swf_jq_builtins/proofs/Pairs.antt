-- Keys beside their values.
use Rattle.std.proofs.Common.{◌≡◌, ◌⊎◌, inl, inr, ◌∷◌, [], List, length, refl, arith}
use Rattle.std.specs.Prelude.{zip}
use Rattle.swf_value.specs.Value.{Value}

zip_none : (ks vs : List Value) → length vs ≡ 0 → zip ks vs ≡ []
zip_none [] vs e = refl
zip_none (k ∷ ks) [] e = refl
zip_none (k ∷ ks) (v ∷ vs) e = absurd (omega (arith, e))

no_keys : (ks vs : List Value) → length ks ≡ 0 → zip ks vs ≡ []
no_keys [] vs e = refl
no_keys (k ∷ ks) vs e = absurd (omega (arith, e))

-- nothing is paired where one side is at its end
pub zip_ended : {A B : Type 0} {P : A → Type 0} {Q : B → Type 0} (ks vs : List Value) → ((u : A) × P u) ⊎ ((u : B) × Q u)
    → ((u : A) → P u → length ks ≡ 0) → ((u : B) → Q u → length vs ≡ 0) → zip ks vs ≡ []
zip_ended ks vs (inl p) f g = no_keys ks vs (f p.0 p.1)
zip_ended ks vs (inr p) f g = zip_none ks vs (g p.0 p.1)
