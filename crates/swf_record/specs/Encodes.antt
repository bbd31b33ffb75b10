-- The bytes of labels: numbers with their highest byte first, and what varies in length behind its length.
use Rattle.std.specs.Prelude.{◌≡◌, ◌+◌, ◌^◌, ◌<◌, ◌≤◌, ℕ, List, ◌∷◌, ◌++◌, true, length, flat_map, Ok}
use Rattle.std.specs.Int.{w16, w32, w64, to_be_bytes}
use Rattle.std.specs.List.{AllByRecursion}
use Rattle.std.specs.Str.{encode_utf8_all, all_scalars}
use Rattle.swf_value.specs.Value.{Value, depth}
use Rattle.swf_value.specs.Written.{written}
use Rattle.swf_value.specs.Read.{read_within}
use Rattle.swf_calls.specs.Reply.{reply_value, IsInRange}
use Rattle.swf_cloudevents.specs.Event.{event_of, event_value}
use Rattle.swf_meaning.specs.declared.label.Label.{Label}
use Rattle.swf_meaning.specs.declared.label.Label.TheVariants.{Load, Start, Event, Reply, Moment, Step}

unfoldable pub two_bytes : ℕ → List ℕ
two_bytes n = to_be_bytes w16 n

unfoldable pub four_bytes : ℕ → List ℕ
four_bytes n = to_be_bytes w32 n

unfoldable pub eight_bytes : ℕ → List ℕ
eight_bytes n = to_be_bytes w64 n

-- bytes behind their count
abbrev pub block_bytes : List ℕ → List ℕ
block_bytes b = four_bytes (length b) ++ b

-- a text is its UTF-8
unfoldable pub text_bytes : List ℕ → List ℕ
text_bytes t = block_bytes (encode_utf8_all t)

-- a value is its compact text
unfoldable pub value_bytes : Value → List ℕ
value_bytes v = block_bytes (written v)

-- a strand is its numbers behind their count
unfoldable pub strand_bytes : List ℕ → List ℕ
strand_bytes s = two_bytes (length s) ++ flat_map two_bytes s

-- a tag and the fields in order
abbrev pub label_bytes : Label → List ℕ
label_bytes (Load v) = 1 ∷ value_bytes v
label_bytes (Start id key input) =
    2 ∷ (text_bytes id ++ (text_bytes key.namespace ++ (text_bytes key.name ++ (text_bytes key.version ++ value_bytes input))))
label_bytes (Event event) = 3 ∷ value_bytes (event_value event)
label_bytes (Reply activity reply) = 4 ∷ (text_bytes activity ++ value_bytes (reply_value reply))
label_bytes (Moment moment) = 5 ∷ eight_bytes moment
label_bytes (Step id strand) = 6 ∷ (text_bytes id ++ strand_bytes strand)

-- labels behind their count
unfoldable pub labels_bytes : List Label → List ℕ
labels_bytes ls = four_bytes (length ls) ++ flat_map label_bytes ls

-- the place of the tag of the label behind these
abbrev pub label_place : List Label → ℕ
label_place ls = 4 + length (flat_map label_bytes ls)

-- the values of a label nest at most 64 deep, and the object around a reply's one deeper; an event is read from its own value,
-- and the status of a reply is one
abbrev pub Nests : Label → Type 0
Nests (Load v) = depth v ≤ 64
Nests (Start id key input) = depth input ≤ 64
Nests (Event event) = (depth (event_value event) ≤ 64) × (event_of (event_value event) ≡ Ok event)
Nests (Reply activity reply) = (depth (reply_value reply) ≤ 65) × IsInRange reply
Nests (Moment moment) = Unit {0}
Nests (Step id strand) = Unit {0}

-- a text of characters whose bytes four bytes can count
pub record FitsText (t : List ℕ) : Type 0 where
  pub scalars : all_scalars t ≡ true
  pub short : length (encode_utf8_all t) < 2 ^ 32

-- a value whose compact text four bytes can count, and is read as this value where so many levels are read at most
pub record FitsValue (most : ℕ) (v : Value) : Type 0 where
  pub short : length (written v) < 2 ^ 32
  pub again : read_within most (written v) ≡ Ok v

-- a strand whose numbers and count have two bytes each
pub record FitsStrand (s : List ℕ) : Type 0 where
  pub short : length s < 2 ^ 16
  pub small : AllByRecursion (λ n. n < 2 ^ 16) s

-- the last moment
abbrev pub last_moment : ℕ
last_moment = 4503599627370495

abbrev pub FieldsFit : Label → Type 0
FieldsFit (Load v) = FitsValue 64 v
FieldsFit (Start id key input) = FitsText id × FitsText key.namespace × FitsText key.name × FitsText key.version × FitsValue 64 input
FieldsFit (Event event) = FitsValue 64 (event_value event)
FieldsFit (Reply activity reply) = FitsText activity × FitsValue 65 (reply_value reply)
FieldsFit (Moment moment) = moment ≤ last_moment
FieldsFit (Step id strand) = FitsText id × FitsStrand strand

-- a label that has bytes
pub record Fits (l : Label) : Type 0 where
  pub nests : Nests l
  pub fields : FieldsFit l

-- these are the bytes of these labels
pub record Encodes (labels : List Label) (bytes : List ℕ) : Type 0 where
  pub some : 0 < length labels
  pub few : length labels < 2 ^ 32
  pub fit : AllByRecursion Fits labels
  pub spelled : bytes ≡ labels_bytes labels
