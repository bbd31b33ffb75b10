-- The documents that are loaded, and which one a key names (DSL, "Runtime"; DSL reference, "Workflow" and "Run").
use Rattle.std.specs.Prelude.{◌&&◌, ℕ, List, [], ◌∷◌, Bool, codes, Option, Some, None, if◌then◌else◌}
use Rattle.swf_text.specs.Same.{same}
use Rattle.swf_value.specs.Value.{Value}
use Rattle.swf_document.specs.declared.document.DocKey.{DocKey}
use Rattle.swf_document.specs.declared.document.Document.{Document}

-- a document that was loaded, beside the value that it was read from
pub record Loaded : Type 0 where
  pub value : Value
  pub document : Document

-- two keys are of one document, in whatever version
abbrev pub same_name : DocKey → DocKey → Bool
same_name a b = same a.namespace b.namespace && same a.name b.name

abbrev pub same_doc : DocKey → DocKey → Bool
same_doc a b = same a.namespace b.namespace && same a.name b.name && same a.version b.version

-- the loaded document of a key
abbrev pub document_at : DocKey → List Loaded → Option Document
document_at k [] = None
document_at k (d ∷ ds) = if same_doc k d.document.key then Some d.document else document_at k ds

-- the version of the last of these documents that has the key's namespace and name, or v where there is none
abbrev pub last_version : DocKey → List Loaded → List ℕ → List ℕ
last_version k [] v = v
last_version k (d ∷ ds) v = last_version k ds (if same_name k d.document.key then d.document.key.version else v)

abbrev pub with_version : DocKey → List ℕ → DocKey
with_version k v = record k { version = v }

-- a key whose version is `latest` gets the last loaded one, and stays as it is where there is none
abbrev pub resolved : List Loaded → DocKey → DocKey
resolved ds k = if same k.version (codes "latest") then with_version k (last_version k ds k.version) else k
