-- What the loaded documents are to those above: a list, and how many more fit without memory.
use Rattle.std.specs.Prelude.{ℕ, List, refl}
use Rattle.std.specs.Coded.{Coded, code_by, codes, coded×, coded_ℕ, coded_list}
use Rattle.swf_value.specs.ValueCode.{value_code, members_code}
use Rattle.swf_document.specs.DocumentCode.{document_code}
use Rattle.swf_meaning.specs.Documents.{Loaded}

-- the documents, in load order
pub record HeldDocuments : Type 0 where
  pub documents : List Loaded
  pub room : ℕ

pub loaded_code : Coded Loaded
loaded_code = hlevel (codes, value_code, members_code, document_code)

abbrev pub held_documents_code : Coded HeldDocuments
held_documents_code = code_by (List Loaded × ℕ) (coded× (coded_list loaded_code) coded_ℕ) (λ h. (h.documents, h.room)) (λ p. record { documents = p.0; room = p.1 }) (λ _. refl)
