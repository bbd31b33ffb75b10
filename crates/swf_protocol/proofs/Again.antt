-- A command is read again from the line that it is written as.
use Rattle.std.proofs.Common.{◌≡◌, ◌∙◌, ap, ap₂, sym, refl, ℕ, ◌≤◌, ◌<◌, ◌^◌, List, [], ◌∷◌, ◌++◌, true, cond, Some, None, Ok, Result, chars, IsUtf8, arith}
use Rattle.std.specs.Fmt.{decimal}
use Rattle.std.specs.List.{AllByRecursion}
use Rattle.std.specs.Str.{encode_utf8_all, all_scalars}
use Rattle.std.proofs.lemmas.Fmt.{IsAscii-decimal, digits_decimal}
use Rattle.std.proofs.lemmas.List.Splits.{slice_split_none}
use Rattle.std.proofs.lemmas.Str.{IsUtf8-nil, IsUtf8-append, IsUtf8-from_ascii, chars-encodes}
use Rattle.swf_text.specs.Same.{is_ascii}
use Rattle.swf_text.proofs.SameLemmas.{all_ascii}
use Rattle.swf_value.specs.Value.{Value}
use Rattle.swf_value.specs.Written.{written}
use Rattle.swf_value.proofs.Data.{data_of, whole-data_of, depth-data_of}
use Rattle.swf_value.proofs.ReadsBack.{read-written, IsUtf8-written}
use Rattle.swf_value.proofs.Readings.{shallow}
use Rattle.swf_calls.specs.Reply.{reply_of, reply_value}
use Rattle.swf_calls.specs.declared.reply.CallReply.{CallReply}
use Rattle.swf_calls.proofs.ReplyLemmas as replies
use Rattle.swf_cloudevents.specs.Event.{event_of, event_value}
use Rattle.swf_cloudevents.specs.declared.event.Event.{Event as TheEvent}
use Rattle.swf_document.specs.declared.document.DocKey.{DocKey}
use Rattle.swf_meaning.specs.declared.label.Outcome.{Outcome}
use Rattle.swf_meaning.specs.declared.label.Outcome.TheVariants.{Load, Start, Event, Reply, Moment}
use Rattle.swf_meaning.specs.declared.label.Query.{Query}
use Rattle.swf_meaning.specs.declared.label.Query.TheVariants.{Status, Pending, Outbox, History}
use Rattle.swf_protocol.specs.Line.{and_then, numbered, told, replied, key_of, start_with, moment_line, settle_line, status_line, outbox_line, history_line, spelled, command_of}
use Rattle.swf_protocol.specs.Reading.{or_fault, value_in}
use Rattle.swf_protocol.specs.Spelled.{command_words, command_text, IsSaid, IsWord, IsTold, IsAnswer, IsOutcome, IsQuery, IsSpeakable}
use Rattle.swf_protocol.specs.Words.{is_space, is_unspaced, is_id, words_of, joined}
use Rattle.swf_protocol.specs.declared.command.Command.{Command}
use Rattle.swf_protocol.specs.declared.command.Command.TheVariants.{Do, Ask, Settle, Quit}
use Rattle.swf_protocol.specs.declared.command.CommandFault.{CommandFault}
use Rattle.swf_protocol.proofs.Decimals.{own, number_again, budget_again, moment_again}
use Rattle.swf_protocol.proofs.LineLemmas.{load_rest, start_words, event_rest, reply_words, utf8_line}
use Rattle.swf_protocol.proofs.Unspaced.{unspaced_bytes, all_unspaced, unspaced_digits, unspaced_id, id_utf8, id_chars, id_bytes}
use Rattle.swf_protocol.proofs.WordLemmas.{words_behind}

-- ---- lines of text

utf8_joined : (words : List (List ℕ)) → AllByRecursion IsUtf8 words → IsUtf8 (joined words)
utf8_joined [] h = IsUtf8-nil
utf8_joined (w ∷ []) h = h.0
utf8_joined (w ∷ x ∷ ws) h =
    IsUtf8-append w (32 ∷ joined (x ∷ ws)) h.0 (IsUtf8-append (32 ∷ []) (joined (x ∷ ws)) (IsUtf8-from_ascii (32 ∷ []) (all_ascii (32 ∷ []) refl)) (utf8_joined (x ∷ ws) h.1))

-- the command of words that are text
of_words : (words : List (List ℕ)) (c : Command) → AllByRecursion IsUtf8 words → spelled (words_of (joined words)) ≡ Ok c → command_of (joined words) ≡ Ok c
of_words words c h e = utf8_line (joined words) (utf8_joined words h) ∙ e

known : (t : List ℕ) → is_ascii t ≡ true → IsUtf8 t
known t h = IsUtf8-from_ascii t (all_ascii t h)

text_utf8 : (t : List ℕ) → all_scalars t ≡ true → IsUtf8 (encode_utf8_all t)
text_utf8 t h = (t, (h, refl))

alone : (w : List ℕ) → is_unspaced w ≡ true → words_of w ≡ w ∷ []
alone w h = slice_split_none is_space w (all_unspaced w h)

behind : (w more : List ℕ) → is_unspaced w ≡ true → words_of (w ++ 32 ∷ more) ≡ w ∷ words_of more
behind w more h = words_behind w more (all_unspaced w h)

-- ---- values

value_again : (most : ℕ) (v : Value) → most ≤ 127 → IsSaid most v → value_in most (written v) ≡ Ok v
value_again most v few h =
    ap or_fault (shallow most (written v) (data_of v) (Some v) (IsUtf8-written v h.value, read-written v h.value (omega (arith, h.shallow))) (omega (arith, h.shallow, depth-data_of v)) (sym (whole-data_of v h.value)))

load_again : (v : Value) → IsSaid 64 v → command_of (command_text (Do (Load v))) ≡ Ok (Do (Load v))
load_again v h =
    of_words (command_words (Do (Load v))) _ (known _ refl, (IsUtf8-written v h.value, tt))
    (load_rest (written v) ∙ ap (and_then (λ w. Ok (Do (Load w)))) (value_again 64 v (omega arith) h))

event_again : (e : TheEvent) → IsTold e → command_of (command_text (Do (Event e))) ≡ Ok (Do (Event e))
event_again e h =
    of_words (command_words (Do (Event e))) _ (known _ refl, (IsUtf8-written (event_value e) h.said.value, tt))
    (event_rest (written (event_value e)) ∙ ap (and_then (λ v. told (event_of v))) (value_again 64 (event_value e) (omega arith) h.said) ∙ ap told h.again)

reply_again : (activity : List ℕ) (r : CallReply) → IsWord activity → IsAnswer r → command_of (command_text (Do (Reply activity r))) ≡ Ok (Do (Reply activity r))
reply_again activity r w h =
    let a = encode_utf8_all activity in
    let json = written (reply_value r) in
    let name : chars a ≡ activity = chars-encodes activity w.scalars in
    of_words (command_words (Do (Reply activity r))) _ (known _ refl, (text_utf8 activity w.scalars, (IsUtf8-written (reply_value r) h.said.value, tt)))
    (reply_words (a ++ 32 ∷ json) a json (behind a json (unspaced_bytes activity w.unspaced))
    ∙ ap (and_then (λ v. replied (chars a) (reply_of v))) (value_again 65 (reply_value r) (omega arith) h.said)
    ∙ ap (replied (chars a)) (replies.reply_again r h.range)
    ∙ ap (λ t. Ok (Do (Reply t r))) name)

key_again : (key : DocKey) → IsWord key.namespace → IsWord key.name → IsWord key.version → key_of (encode_utf8_all key.namespace) (encode_utf8_all key.name) (encode_utf8_all key.version) ≡ key
key_again key a b d =
    λ i. record { namespace = chars-encodes key.namespace a.scalars i; name = chars-encodes key.name b.scalars i; version = chars-encodes key.version d.scalars i }

if_id : (id : List ℕ) (r s : Result Command CommandFault) → is_id id ≡ true → cond (is_id id) r s ≡ r
if_id id r s h = ap (λ b. cond b r s) h

-- what behind the words of a start is read
started_again : (id : List ℕ) (key : DocKey) (input : Value) → is_id id ≡ true → IsSaid 64 input → start_with id key (written input) ≡ Ok (Do (Start id key input))
started_again id key input h said =
    if_id id _ _ h ∙ ap (and_then (λ v. Ok (Do (Start (chars id) key v)))) (value_again 64 input (omega arith) said) ∙ ap (λ t. Ok (Do (Start t key input))) (id_chars id h)

start_again : (id : List ℕ) (key : DocKey) (input : Value) → IsOutcome (Start id key input) → command_of (command_text (Do (Start id key input))) ≡ Ok (Do (Start id key input))
start_again id key input h =
    let bytes = id_bytes id h.0 in
    let a = encode_utf8_all id in
    let namespace = encode_utf8_all key.namespace in
    let name = encode_utf8_all key.name in
    let version = encode_utf8_all key.version in
    let json = written input in
    let r = version ++ 32 ∷ json in
    let s = name ++ 32 ∷ r in
    let t = namespace ++ 32 ∷ s in
    of_words (command_words (Do (Start id key input))) _
    (known _ refl, (id_utf8 id h.0, (text_utf8 key.namespace h.1.scalars, (text_utf8 key.name h.2.scalars, (text_utf8 key.version h.3.scalars, (IsUtf8-written input h.4.value, tt))))))
    (start_words (a ++ 32 ∷ t) t s r a namespace name version json
    (behind a t (ap is_unspaced bytes ∙ unspaced_id id h.0)) (behind namespace s (unspaced_bytes key.namespace h.1.unspaced))
    (behind name r (unspaced_bytes key.name h.2.unspaced)) (behind version json (unspaced_bytes key.version h.3.unspaced))
    ∙ ap₂ (λ i k. start_with i k json) bytes (key_again key h.1 h.2 h.3) ∙ started_again id key input h.0 h.4)

-- ---- numbers

digits_alone : (n : ℕ) → n < 2 ^ 64 → words_of (decimal n) ≡ decimal n ∷ []
digits_alone n h = alone (decimal n) (unspaced_digits (decimal n) (digits_decimal own n h))

digits_utf8 : (n : ℕ) → n < 2 ^ 64 → IsUtf8 (decimal n)
digits_utf8 n h = IsUtf8-from_ascii (decimal n) (IsAscii-decimal n h)

moment_text : (n : ℕ) → n ≤ 4503599627370495 → command_of (command_text (Do (Moment n))) ≡ Ok (Do (Moment n))
moment_text n h =
    of_words (command_words (Do (Moment n))) _ (known _ refl, (digits_utf8 n (omega (arith, h)), tt))
    (ap moment_line (digits_alone n (omega (arith, h))) ∙ ap (numbered (λ m. Do (Moment m))) (moment_again n h))

query_again : (q : Query) → IsQuery q → command_of (command_text (Ask q)) ≡ Ok (Ask q)
query_again (Status id) h =
    let bytes = id_bytes id h in
    of_words (command_words (Ask (Status id))) _ (known _ refl, (id_utf8 id h, tt))
    (ap (λ t. status_line (words_of t)) bytes ∙ ap status_line (alone id (unspaced_id id h)) ∙ if_id id _ _ h ∙ ap (λ t. Ok (Ask (Status t))) (id_chars id h))
query_again Pending h = of_words (command_words (Ask Pending)) _ (known _ refl, tt) refl
query_again (Outbox n) h =
    of_words (command_words (Ask (Outbox n))) _ (known _ refl, (digits_utf8 n h, tt))
    (ap outbox_line (digits_alone n h) ∙ ap (numbered (λ m. Ask (Outbox m))) (number_again n h))
query_again (History n) h =
    of_words (command_words (Ask (History n))) _ (known _ refl, (digits_utf8 n h, tt))
    (ap history_line (digits_alone n h) ∙ ap (numbered (λ m. Ask (History m))) (number_again n h))

outcome_again : (o : Outcome) → IsOutcome o → command_of (command_text (Do o)) ≡ Ok (Do o)
outcome_again (Load v) h = load_again v h
outcome_again (Start id key input) h = start_again id key input h
outcome_again (Event e) h = event_again e h
outcome_again (Reply activity r) h = reply_again activity r h.0 h.1
outcome_again (Moment moment) h = moment_text moment h

pub command_again : (c : Command) → IsSpeakable c → command_of (command_text c) ≡ Ok c
command_again (Do o) h = outcome_again o h
command_again (Ask q) h = query_again q h
command_again (Settle None) h = of_words (command_words (Settle None)) _ (known _ refl, tt) refl
command_again (Settle (Some n)) h =
    let small : n < 2 ^ 64 = omega (arith, h.1) in
    of_words (command_words (Settle (Some n))) _ (known _ refl, (digits_utf8 n small, tt))
    (ap settle_line (digits_alone n small) ∙ ap (numbered (λ m. Settle (Some m))) (budget_again n h.0 h.1))
command_again Quit h = of_words (command_words Quit) _ (known _ refl, tt) refl
