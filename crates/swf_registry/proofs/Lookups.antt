-- What is found in a map is what the definitions find in its list.
use Rattle.std.proofs.Common.{◌≡◌, ◌∙◌, ap, sym, refl, cond, ℕ, ◌||◌, List, [], ◌∷◌, Bool, true, false, is_some, Option, Some, None}
use Rattle.std.specs.List.{list_any}
use Rattle.std.specs.Map.{lookup}
use Rattle.swf_meaning.specs.declared.key.Key.{Key}
use Rattle.swf_runs.specs.Keys.{same_key}
use Rattle.swf_registry.specs.declared.sought.Sought.{Sought}
use Rattle.swf_registry.specs.UsedKey.{sought_key, stands_for, used_at, key_eq, keys_alike}

-- the place of a used key
pub used_lookup : (q : Sought) (ks : List (Key × ℕ)) → lookup (stands_for q) ks ≡ used_at (sought_key q) ks
used_lookup q [] = refl
used_lookup q (e ∷ es) = ap (cond (stands_for q e.0) (Some e.1)) (used_lookup q es)

-- the same by the test of the map
pub key_lookup : (k : Key) (ks : List (Key × ℕ)) → lookup (key_eq k) ks ≡ used_at k ks
key_lookup k [] = refl
key_lookup k (e ∷ es) = ap (λ b. cond b (Some e.1) (lookup (key_eq k) es)) (sym (keys_alike k e.0)) ∙ ap (cond (same_key k e.0) (Some e.1)) (key_lookup k es)

-- a key is used exactly where it has a place
pub used_some : (k : Key) (ps : List (Key × ℕ)) → is_some (used_at k ps) ≡ list_any (λ p. same_key k p.0) ps
used_some k [] = refl
used_some k (p ∷ ps) = by (same_key k p.0) (used_some k ps)
  where
    by : (b : Bool) → is_some (used_at k ps) ≡ list_any (λ p. same_key k p.0) ps → is_some (cond b (Some p.1) (used_at k ps)) ≡ (b || list_any (λ p. same_key k p.0) ps)
    by true rest = refl
    by false rest = rest

none_from : {A : Type 0} (o : Option A) → is_some o ≡ false → o ≡ None
none_from None e = refl
none_from (Some x) e = cc

-- and has none where it was not used
pub not_used : (k : Key) (ps : List (Key × ℕ)) → list_any (λ p. same_key k p.0) ps ≡ false → used_at k ps ≡ None
not_used k ps e = none_from (used_at k ps) (used_some k ps ∙ e)
