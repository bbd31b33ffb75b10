-- What bytes are read as: labels, field by field from the left, or the place of the first field that does not fit.
use Rattle.std.specs.Prelude.{◌==◌, ◌-◌, ℕ, zero, suc, List, [], ◌∷◌, length, take, drop, chars, nat_lt, nat_le, Option, Some, None, option_map, option_and_then, Result, Ok, Err, if◌then◌else◌}
use Rattle.std.specs.Int.{Width, w16, w32, w64, byte_len, from_be_bytes}
use Rattle.std.specs.Ordering.{is_eq}
use Rattle.std.specs.Result.{result_ok}
use Rattle.std.specs.Str.{is_utf8, bytes_eq}
use Rattle.swf_value.specs.Order.{value_cmp}
use Rattle.swf_value.specs.Value.{Value}
use Rattle.swf_value.specs.Written.{written}
use Rattle.swf_value.specs.Read.{read_within}
use Rattle.swf_calls.specs.Reply.{reply_of}
use Rattle.swf_cloudevents.specs.declared.event.Event.{Event as TheEvent}
use Rattle.swf_cloudevents.specs.Event.{event_of, event_value}
use Rattle.swf_meaning.specs.declared.label.Label.{Label}
use Rattle.swf_meaning.specs.declared.label.Label.TheVariants.{Load, Start, Event, Reply, Moment, Step}
use Rattle.swf_record.specs.Encodes.{last_moment}

-- what was read and what is left behind it; or what is left from the field on that does not fit
abbrev pub Reading : Type 0 → Type 0
Reading A = Result (A × List ℕ) (List ℕ)

infixl 10 ◌>>=◌
abbrev pub ◌>>=◌ : {A B : Type 0} → Reading A → (A × List ℕ → Reading B) → Reading B
Ok p >>= f = f p
Err rest >>= f = Err rest

-- a number, its highest byte first
unfoldable pub number_in : Width → List ℕ → Reading ℕ
number_in w rest = if nat_lt (length rest) (byte_len w) then Err rest else Ok (from_be_bytes w (take (byte_len w) rest), drop (byte_len w) rest)

-- so many bytes of a field that begins with their count
abbrev pub counted : List ℕ → ℕ × List ℕ → Reading (List ℕ)
counted field p = if nat_lt (length p.1) p.0 then Err field else Ok (take p.0 p.1, drop p.0 p.1)

unfoldable pub block_in : List ℕ → Reading (List ℕ)
block_in field = number_in w32 field >>= counted field

-- what a field stands for, if it stands for anything
abbrev pub meant : {A : Type 0} → List ℕ → List ℕ → Option A → Reading A
meant field rest None = Err field
meant field rest (Some x) = Ok (x, rest)

abbrev pub utf8 : List ℕ → Option (List ℕ)
utf8 b = if is_utf8 b then Some (chars b) else None

unfoldable pub text_in : List ℕ → Reading (List ℕ)
text_in field = block_in field >>= λ p. meant field p.1 (utf8 p.0)

-- a value that nests at most so deep, where it is written as these bytes
abbrev pub if_written : List ℕ → Option Value → Option Value
if_written b None = None
if_written b (Some v) = if bytes_eq (written v) b then Some v else None

unfoldable pub compact : ℕ → List ℕ → Option Value
compact most b = if_written b (result_ok (read_within most b))

unfoldable pub value_in : ℕ → List ℕ → Reading Value
value_in most field = block_in field >>= λ p. meant field p.1 (compact most p.0)

-- so many of a kind, one after another
unfoldable pub many_in : {A : Type 0} → (List ℕ → Reading A) → ℕ → List ℕ → Reading (List A)
many_in one zero rest = Ok ([], rest)
many_in one (suc n) rest = one rest >>= λ x. many_in one n x.1 >>= λ xs. Ok (x.0 ∷ xs.0, xs.1)

unfoldable pub strand_in : List ℕ → Reading (List ℕ)
strand_in rest = number_in w16 rest >>= λ n. many_in (number_in w16) n.0 n.1

unfoldable pub load_in : List ℕ → Reading Label
load_in rest = value_in 64 rest >>= λ v. Ok (Load v.0, v.1)

unfoldable pub start_in : List ℕ → Reading Label
start_in rest =
    text_in rest >>= λ id. text_in id.1 >>= λ namespace. text_in namespace.1 >>= λ name. text_in name.1 >>= λ version. value_in 64 version.1
    >>= λ input. Ok (Start id.0 (record { namespace = namespace.0; name = name.0; version = version.0 }) input.0, input.1)

-- the event that is written as this value
abbrev pub if_value : Value → TheEvent → Option TheEvent
if_value v e = if is_eq (value_cmp (event_value e) v) then Some e else None

unfoldable pub told_event : Value → Option TheEvent
told_event v = option_and_then (if_value v) (result_ok (event_of v))

unfoldable pub event_in : List ℕ → Reading Label
event_in field = value_in 64 field >>= λ v. meant field v.1 (option_map Event (told_event v.0))

-- the object around a reply's values nests one deeper than they may
unfoldable pub reply_in : List ℕ → Reading Label
reply_in rest = text_in rest >>= λ activity. value_in 65 activity.1 >>= λ v. meant activity.1 v.1 (option_map (Reply activity.0) (reply_of v.0))

-- a moment, where there is one of that number
abbrev pub timed : List ℕ → ℕ × List ℕ → Reading Label
timed field n = if nat_le n.0 last_moment then Ok (Moment n.0, n.1) else Err field

unfoldable pub moment_in : List ℕ → Reading Label
moment_in field = number_in w64 field >>= timed field

unfoldable pub step_in : List ℕ → Reading Label
step_in rest = text_in rest >>= λ id. strand_in id.1 >>= λ strand. Ok (Step id.0 strand.0, strand.1)

-- a label by its tag
unfoldable pub label_in : List ℕ → Reading Label
label_in [] = Err []
label_in (tag ∷ rest) =
    if tag == 1 then load_in rest
    else if tag == 2 then start_in rest
    else if tag == 3 then event_in rest
    else if tag == 4 then reply_in rest
    else if tag == 5 then moment_in rest
    else if tag == 6 then step_in rest
    else Err (tag ∷ rest)

-- nothing is left
abbrev pub ended : {A : Type 0} → A → List ℕ → Reading A
ended x [] = Ok (x, [])
ended x (b ∷ rest) = Err (b ∷ rest)

-- at least one label, and nothing behind the last
unfoldable pub record_in : List ℕ → Reading (List Label)
record_in bytes = number_in w32 bytes >>= λ n. if n.0 == 0 then Err bytes else (many_in label_in n.0 n.1 >>= λ ls. ended ls.0 ls.1)

-- the place where what is left begins
abbrev pub placed : {A : Type 0} → List ℕ → Reading A → Result A ℕ
placed bytes (Ok p) = Ok p.0
placed bytes (Err rest) = Err (length bytes - length rest)

-- the labels, or the place of the first field that does not fit
unfoldable pub decoded : List ℕ → Result (List Label) ℕ
decoded bytes = placed bytes (record_in bytes)
