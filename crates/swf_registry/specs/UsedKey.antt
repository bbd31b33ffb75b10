-- Which used key is looked up.
use denote.Bor.{Bor}
use Rattle.std.specs.Prelude.{◌≡◌, refl, ℕ, List, [], ◌∷◌, Bool, true, Option, Some, None, if◌then◌else◌}
use Rattle.std.proofs.Common.{ap, ◌∙◌}
use Rattle.swf_runs.proofs.OnceLemmas.{same_key_true}
use Rattle.swf_document.specs.declared.document.DocKey.{DocKey}
use Rattle.swf_meaning.specs.contracts.key.KeyPartialEq.TheImpl.{ghosts}
use Rattle.swf_meaning.specs.declared.key.Key.{Key}
use Rattle.swf_meaning.specs.declared.key.Key.TheVariants.{Document, Instance, Event, Activity, Moment}
use Rattle.swf_catalog.specs.Loads.{docs_alike}
use Rattle.swf_runs.specs.Keys.{same_key}
use Rattle.swf_registry.specs.declared.sought.Sought.{Sought}
use Rattle.swf_registry.specs.declared.sought.Sought.TheVariants as sought

-- what is looked up is this key
abbrev pub sought_key : Sought → Key
sought_key (sought.Document k) = Document k.now
sought_key (sought.Instance id) = Instance id.now
sought_key (sought.Event source id) = Event source.now id.now
sought_key (sought.Activity a) = Activity a.now

-- whether what is looked up is this key
abbrev pub stands_for : Sought → Key → Bool
stands_for q k = same_key (sought_key q) k

-- the place of the first of these keys that is this one
abbrev pub used_at : Key → List (Key × ℕ) → Option ℕ
used_at k [] = None
used_at k (p ∷ ps) = if same_key k p.0 then Some p.1 else used_at k ps

-- what is looked up is hashed as the key is that it stands for
pub hashed_alike : {W : Type 0} (F : Sought → W) (G : Key → W) → ((q : Sought) → F q ≡ G (sought_key q)) → (q : Sought) (k : Key) → stands_for q k ≡ true → F q ≡ G k
hashed_alike F G alike q k e = alike q ∙ ap G (same_key_true (sought_key q) k e)

-- the same for all that is looked up, where it holds of each kind
pub sought_alike : {W : Type 0} (F : Sought → W) (G : Key → W) → ((k : Bor DocKey) → F (sought.Document k) ≡ G (Document k.now)) → ((id : Bor (List ℕ)) → F (sought.Instance id) ≡ G (Instance id.now)) →
    ((source id : Bor (List ℕ)) → F (sought.Event source id) ≡ G (Event source.now id.now)) → ((a : Bor (List ℕ)) → F (sought.Activity a) ≡ G (Activity a.now)) → (q : Sought) → F q ≡ G (sought_key q)
sought_alike F G d i e a (sought.Document k) = d k
sought_alike F G d i e a (sought.Instance id) = i id
sought_alike F G d i e a (sought.Event source id) = e source id
sought_alike F G d i e a (sought.Activity x) = a x

-- the test of the type of keys
abbrev pub key_eq : Key → Key → Bool
key_eq = ghosts.eq

-- it is the test of the definitions
pub keys_alike : (a b : Key) → same_key a b ≡ key_eq a b
keys_alike (Document a) (Document b) = docs_alike a b
keys_alike (Instance a) (Instance b) = refl
keys_alike (Event s a) (Event t b) = refl
keys_alike (Activity a) (Activity b) = refl
keys_alike (Moment a) (Moment b) = refl
keys_alike a b = refl

-- what is looked up stands for the keys that are equal to one that it stands for
pub stands_alike : (q : Sought) (x y : Key) → stands_for q x ≡ true → stands_for q y ≡ key_eq x y
stands_alike q x y e = ap (λ k. same_key k y) (same_key_true (sought_key q) x e) ∙ keys_alike x y
