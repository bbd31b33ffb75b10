-- How labels print, and what is told of a history from a place on.
use Rattle.std.specs.Prelude.{ℕ, pos, List, ◌∷◌, ◌++◌, codes, map, take, drop}
use Rattle.swf_value.specs.Value.{Value, int, text, list, object, no_members, member}
use Rattle.swf_value.specs.Weight.{items_of}
use Rattle.swf_calls.specs.Reply.{reply_value}
use Rattle.swf_cloudevents.specs.Event.{event_value}
use Rattle.swf_document.specs.declared.document.DocKey.{DocKey}
use Rattle.swf_meaning.specs.declared.label.Label.{Label}
use Rattle.swf_meaning.specs.declared.label.Label.TheVariants.{Load, Start, Event, Reply, Moment, Step}

-- namespace, name and version, with a `/` between them
abbrev pub key_text : DocKey → List ℕ
key_text key = key.namespace ++ 47 ∷ (key.name ++ 47 ∷ key.version)

abbrev pub printed : Label → Value
printed (Load v) = object (member (codes "document") v (member (codes "label") (text (codes "load")) no_members))
printed (Start id key input) =
    object (member (codes "document") (text (key_text key)) (member (codes "id") (text id) (member (codes "input") input (member (codes "label") (text (codes "start")) no_members))))
printed (Event e) = object (member (codes "event") (event_value e) (member (codes "label") (text (codes "event")) no_members))
printed (Reply a r) =
    object (member (codes "activity") (text a) (member (codes "label") (text (codes "reply")) (member (codes "reply") (reply_value r) no_members)))
printed (Moment moment) = object (member (codes "label") (text (codes "moment")) (member (codes "moment") (int (pos moment)) no_members))
printed (Step id strand) =
    object (member (codes "id") (text id) (member (codes "label") (text (codes "step")) (member (codes "strand") (list (items_of (map (λ n. int (pos n)) strand))) no_members)))

-- how many labels are told at most
abbrev pub most_told : ℕ
most_told = 100

-- the labels that are told from a place on
abbrev pub told_from : ℕ → List Label → List Label
told_from place labels = take most_told (drop place labels)

abbrev pub labels_value : List Value → Value
labels_value values = object (member (codes "labels") (list (items_of values)) no_members)

abbrev pub history_value : List Label → ℕ → Value
history_value labels place = labels_value (map printed (told_from place labels))
