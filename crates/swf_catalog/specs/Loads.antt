-- What the map of documents stands for: the list of the definitions.
use Rattle.std.specs.Prelude.{◌≡◌, ◌&&◌, refl, List, Bool, true, false, map}
use Rattle.swf_text.specs.Same.{same}
use Rattle.swf_document.specs.declared.document.DocKey.{DocKey}
use Rattle.swf_meaning.specs.Documents.{Loaded as WorldLoaded, same_doc}
use Rattle.swf_catalog.specs.declared.documents.Loaded.{Loaded}

abbrev pub loaded_of : Loaded → WorldLoaded
loaded_of l = record { value = l.value; document = l.document }

abbrev pub loaded_in : List (DocKey × Loaded) → List WorldLoaded
loaded_in ds = map (λ e. loaded_of e.1) ds

-- a document is kept under its own key
abbrev pub IsNamed : DocKey × Loaded → Type 0
IsNamed e = e.0 ≡ e.1.document.key

and_again : (a b c : Bool) → ((a && b) && c) ≡ (a && (b && c))
and_again true b c = refl
and_again false b c = refl

-- the test that maps use
abbrev pub doc_eq : DocKey → DocKey → Bool
doc_eq a b = same a.namespace b.namespace && (same a.name b.name && same a.version b.version)

-- two keys are one where their parts are
pub docs_alike : (a b : DocKey) → same_doc a b ≡ doc_eq a b
docs_alike a b = and_again (same a.namespace b.namespace) (same a.name b.name) (same a.version b.version)
