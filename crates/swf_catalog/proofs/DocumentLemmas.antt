-- What is found in the map of documents is what the definitions find in its list.
use Rattle.std.proofs.Common.{◌≡◌, ◌∙◌, ap, sym, refl, cond, List, [], ◌∷◌, ◌++◌, Bool, true, false, Option, Some, None, option_map}
use Rattle.std.specs.List.{AllByRecursion}
use Rattle.std.specs.Map.{lookup}
use Rattle.swf_document.specs.declared.document.DocKey.{DocKey}
use Rattle.swf_meaning.specs.Documents.{document_at, same_doc}
use Rattle.swf_catalog.specs.declared.documents.Loaded.{Loaded}
use Rattle.swf_catalog.specs.Loads.{loaded_in, IsNamed, docs_alike, doc_eq}

-- the document of a key
pub document_lookup : (k : DocKey) (ds : List (DocKey × Loaded)) → AllByRecursion IsNamed ds → option_map (λ l. l.document) (lookup (doc_eq k) ds) ≡ document_at k (loaded_in ds)
document_lookup k [] named = refl
document_lookup k (e ∷ es) named =
    step (doc_eq k e.0) (document_lookup k es named.1) ∙ ap (λ b. cond b (Some e.1.document) (document_at k (loaded_in es))) (sym (docs_alike k e.0) ∙ ap (same_doc k) named.0)
  where
    step : (b : Bool) → option_map (λ l. l.document) (lookup (doc_eq k) es) ≡ document_at k (loaded_in es) → option_map (λ l. l.document) (cond b (Some e.1) (lookup (doc_eq k) es)) ≡ cond b (Some e.1.document) (document_at k (loaded_in es))
    step true rest = refl
    step false rest = rest

unmapped : {A B : Type 0} (f : A → B) (o : Option A) → option_map f o ≡ None → o ≡ None
unmapped f None e = refl
unmapped f (Some x) e = cc

-- a key of which there is no document is not in the map
pub no_document : (k : DocKey) (ds : List (DocKey × Loaded)) → AllByRecursion IsNamed ds → document_at k (loaded_in ds) ≡ None → lookup (doc_eq k) ds ≡ None
no_document k ds named e = unmapped (λ l. l.document) (lookup (doc_eq k) ds) (document_lookup k ds named ∙ e)

-- one more under its own key
pub named_pushed : (ds : List (DocKey × Loaded)) (e : DocKey × Loaded) → AllByRecursion IsNamed ds → IsNamed e → AllByRecursion IsNamed (ds ++ e ∷ [])
named_pushed [] e named own = (own, tt)
named_pushed (d ∷ ds) e named own = (named.0, named_pushed ds e named.1 own)
