-- By what an outcome is known, so that none acts twice.
use Rattle.std.specs.Prelude.{◌≡◌, ◌&&◌, ◌==◌, List, [], ◌∷◌, Bool, true, false, not, Option, Some, None}
use Rattle.std.specs.List.{list_any, filter_map}
use Rattle.swf_value.specs.Value.{Value}
use Rattle.swf_text.specs.Same.{same}
use Rattle.swf_reader.specs.Reads.{document_of}
use Rattle.swf_document.specs.declared.document.DocKey.{DocKey}
use Rattle.swf_meaning.specs.Documents.{same_doc}
use Rattle.swf_meaning.specs.declared.key.Key.{Key}
use Rattle.swf_meaning.specs.declared.key.Key.TheVariants.{Document, Instance, Event, Activity, Moment}
use Rattle.swf_meaning.specs.declared.label.Label.{Label}
use Rattle.swf_meaning.specs.declared.label.Label.TheVariants.{Load, Start, Event as Told, Reply, Moment as AtMoment, Step}

abbrev pub same_key : Key → Key → Bool
same_key (Document a) (Document b) = same_doc a b
same_key (Instance a) (Instance b) = same a b
same_key (Event s a) (Event t b) = same s t && same a b
same_key (Activity a) (Activity b) = same a b
same_key (Moment a) (Moment b) = a == b
same_key a b = false

-- the namespace, name and version that a value gives
abbrev pub doc_key : Value → DocKey
doc_key v = (document_of v).key

-- a load's key is its document's, a start's its id, an event's its source and id, a reply's its activity, and a moment's the moment; a
-- step has none
abbrev pub key_of : Label → Option Key
key_of (Load v) = Some (Document (doc_key v))
key_of (Start id key input) = Some (Instance id)
key_of (Told e) = Some (Event e.source e.id)
key_of (Reply a r) = Some (Activity a)
key_of (AtMoment moment) = Some (Moment moment)
key_of (Step id strand) = None

abbrev pub are_distinct : List Key → Bool
are_distinct [] = true
are_distinct (k ∷ ks) = not (list_any (same_key k) ks) && are_distinct ks

-- no two labels have equal keys
abbrev pub Once : List Label → Type 0
Once h = are_distinct (filter_map key_of h) ≡ true
