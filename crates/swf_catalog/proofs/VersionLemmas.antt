-- The last loaded version, one document after another.
use Rattle.std.proofs.Common.{◌≡◌, ◌∙◌, ap, sym, cond, ℕ, zero, suc, ◌+◌, List, [], ◌∷◌, take, Bool, Some, slice_get, add-one}
use Rattle.std.proofs.lemmas.Option.{same_Some}
use Rattle.std.specs.Map.{values_of}
use Rattle.swf_document.specs.declared.document.DocKey.{DocKey}
use Rattle.swf_catalog.specs.declared.documents.Loaded.{Loaded}
use Rattle.swf_catalog.specs.Loads.{loaded_in}
use Rattle.swf_meaning.specs.Documents.{same_name, last_version}

one_more : (k : DocKey) (ds : List (DocKey × Loaded)) (n : ℕ) (v : List ℕ) (l : Loaded) → slice_get (values_of ds) n ≡ Some l →
    last_version k (take (suc n) (loaded_in ds)) v ≡ cond (same_name k l.document.key) l.document.key.version (last_version k (take n (loaded_in ds)) v)
one_more k [] n v l e = cc
one_more k (x ∷ xs) zero v l e = let same : x.1 ≡ l = same_Some x.1 l e in ap (λ l. cond (same_name k l.document.key) l.document.key.version v) same
one_more k (x ∷ xs) (suc n) v l e = one_more k xs n (cond (same_name k x.1.document.key) x.1.document.key.version v) l e

-- one document more, whose name was compared
pub more_versions : (k : DocKey) (ds : List (DocKey × Loaded)) (n : ℕ) (v u : List ℕ) (l : Loaded) (b : Bool) → slice_get (values_of ds) n ≡ Some l → last_version k (take n (loaded_in ds)) v ≡ u → b ≡ same_name k l.document.key →
    last_version k (take (n + 1) (loaded_in ds)) v ≡ cond b l.document.key.version u
more_versions k ds n v u l b e h t =
    ap (λ m. last_version k (take m (loaded_in ds)) v) (add-one n) ∙ one_more k ds n v l e
    ∙ (λ i. cond (sym t i) l.document.key.version (h i))
