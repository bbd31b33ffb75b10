-- What reading never answers: want of memory, or the end of the session where there is more than one word.
use Rattle.std.proofs.Common.{◌≡◌, ◌∙◌, ap, refl, ℕ, List, [], ◌∷◌, Bool, true, false, cond, chars, Option, Some, None, Result, Ok, Err}
use Rattle.std.specs.Str.{is_utf8}
use Rattle.swf_value.specs.Value.{Value}
use Rattle.swf_value.specs.Read.{whole, whole_or_fault, value_or_fault}
use Rattle.swf_value.specs.declared.fault.ValueFault.{ValueFault}
use Rattle.swf_value.specs.declared.fault.ValueFault.TheVariants as values
use Rattle.swf_calls.specs.Reply.{reply_of}
use Rattle.swf_calls.specs.declared.reply.CallReply.{CallReply}
use Rattle.swf_cloudevents.specs.Event.{event_of}
use Rattle.swf_cloudevents.specs.Faults.{Fault}
use Rattle.swf_cloudevents.specs.declared.event.Event.{Event}
use Rattle.swf_protocol.specs.Line.{and_then, numbered, told, replied, start_line, asked, spelled, command_of, is_quit}
use Rattle.swf_protocol.specs.Number.{number_of, budget_of, moment_in}
use Rattle.swf_protocol.specs.Reading.{or_fault, value_in}
use Rattle.swf_protocol.specs.Verbs.{verb_of}
use Rattle.swf_protocol.specs.Words.{joined, words_of, is_id}
use Rattle.swf_protocol.specs.declared.command.Command.{Command}
use Rattle.swf_protocol.specs.declared.command.Command.TheVariants.{Do, Ask, Settle, Quit}
use Rattle.swf_protocol.specs.declared.command.CommandFault.{CommandFault}
use Rattle.swf_protocol.specs.declared.command.CommandFault.TheVariants.{BadLine, BadEvent, OutOfMemory}
use Rattle.swf_protocol.specs.declared.command.LineFault.TheVariants as faults
use Rattle.swf_protocol.specs.declared.verb.Verb.{Verb}
use Rattle.swf_protocol.specs.declared.verb.Verb.TheVariants as verbs
use Rattle.swf_protocol.proofs.WordLemmas.{some_words}

abbrev is_memory : {A : Type 0} → Result A CommandFault → Bool
is_memory (Err OutOfMemory) = true
is_memory r = false

-- neither is answered
abbrev is_plain : Result Command CommandFault → Bool
is_plain (Ok Quit) = false
is_plain (Err OutOfMemory) = false
is_plain r = true

plain_quit : (r : Result Command CommandFault) → is_plain r ≡ true → is_quit r ≡ false
plain_quit (Ok (Do o)) h = refl
plain_quit (Ok (Ask q)) h = refl
plain_quit (Ok (Settle n)) h = refl
plain_quit (Ok Quit) h = cc
plain_quit (Err e) h = refl

plain_memory : (r : Result Command CommandFault) → is_plain r ≡ true → is_memory r ≡ false
plain_memory (Ok c) h = refl
plain_memory (Err (BadLine f)) h = refl
plain_memory (Err (BadEvent a k)) h = refl
plain_memory (Err OutOfMemory) h = cc

-- ---- values

whole_plain : (o : Option Value) → is_memory (or_fault (whole_or_fault o)) ≡ false
whole_plain None = refl
whole_plain (Some v) = refl

deep_plain : (b : Bool) (o : Option Value) → is_memory (or_fault (cond b (Err values.TooDeep) (whole_or_fault o))) ≡ false
deep_plain true o = refl
deep_plain false o = whole_plain o

data_plain : (most : ℕ) (o : _) → is_memory (or_fault (value_or_fault most o)) ≡ false
data_plain most None = refl
data_plain most (Some d) = deep_plain _ (whole d)

text_plain : (b : Bool) (r : Result Value ValueFault) → is_memory (or_fault r) ≡ false → is_memory (or_fault (cond b r (Err values.NotJson))) ≡ false
text_plain true r h = h
text_plain false r h = refl

value_plain : (most : ℕ) (bytes : List ℕ) → is_memory (value_in most bytes) ≡ false
value_plain most bytes = text_plain (is_utf8 bytes) _ (data_plain most _)

-- ---- commands

then_plain : (f : Value → Result Command CommandFault) (r : Result Value CommandFault) → ((v : Value) → is_plain (f v) ≡ true) → is_memory r ≡ false → is_plain (and_then f r) ≡ true
then_plain f (Ok v) g h = g v
then_plain f (Err (BadLine e)) g h = refl
then_plain f (Err (BadEvent a k)) g h = refl
then_plain f (Err OutOfMemory) g h = cc

number_plain : (f : ℕ → Command) (o : Option ℕ) → ((n : ℕ) → is_plain (Ok (f n)) ≡ true) → is_plain (numbered f o) ≡ true
number_plain f None g = refl
number_plain f (Some n) g = g n

told_plain : (r : Result Event Fault) → is_plain (told r) ≡ true
told_plain (Ok e) = refl
told_plain (Err f) = refl

replied_plain : (activity : List ℕ) (o : Option CallReply) → is_plain (replied activity o) ≡ true
replied_plain activity None = refl
replied_plain activity (Some r) = refl

either_plain : (b : Bool) (x y : Result Command CommandFault) → is_plain x ≡ true → is_plain y ≡ true → is_plain (cond b x y) ≡ true
either_plain true x y h g = h
either_plain false x y h g = g

start_plain : (words : List (List ℕ)) → is_plain (start_line words) ≡ true
start_plain (id ∷ namespace ∷ name ∷ version ∷ json ∷ more) = either_plain (is_id id) _ _ (then_plain _ _ (λ v. refl) (value_plain 64 (joined (json ∷ more)))) refl
start_plain (id ∷ namespace ∷ name ∷ version ∷ []) = refl
start_plain (id ∷ namespace ∷ name ∷ []) = refl
start_plain (id ∷ namespace ∷ []) = refl
start_plain (id ∷ []) = refl
start_plain [] = refl

more_plain : (o : Option Verb) (word : List ℕ) (words : List (List ℕ)) → is_plain (asked o (word ∷ words)) ≡ true
more_plain None word words = refl
more_plain (Some verbs.Load) word words = then_plain _ _ (λ v. refl) (value_plain 64 (joined (word ∷ words)))
more_plain (Some verbs.Start) word words = start_plain (word ∷ words)
more_plain (Some verbs.Event) word words = then_plain _ _ (λ v. told_plain (event_of v)) (value_plain 64 (joined (word ∷ words)))
more_plain (Some verbs.Reply) word [] = refl
more_plain (Some verbs.Reply) word (w ∷ words) = then_plain _ _ (λ v. replied_plain (chars word) (reply_of v)) (value_plain 65 (joined (w ∷ words)))
more_plain (Some verbs.Moment) word [] = number_plain _ (moment_in word) (λ n. refl)
more_plain (Some verbs.Moment) word (w ∷ words) = refl
more_plain (Some verbs.Settle) word [] = number_plain _ (budget_of word) (λ n. refl)
more_plain (Some verbs.Settle) word (w ∷ words) = refl
more_plain (Some verbs.Status) word [] = either_plain (is_id word) _ _ refl refl
more_plain (Some verbs.Status) word (w ∷ words) = refl
more_plain (Some verbs.Pending) word words = refl
more_plain (Some verbs.Outbox) word [] = number_plain _ (number_of word) (λ n. refl)
more_plain (Some verbs.Outbox) word (w ∷ words) = refl
more_plain (Some verbs.History) word [] = number_plain _ (number_of word) (λ n. refl)
more_plain (Some verbs.History) word (w ∷ words) = refl
more_plain (Some verbs.Quit) word words = refl

rest_plain : (word rest : List ℕ) → is_plain (spelled (word ∷ words_of rest)) ≡ true
rest_plain word rest =
    let (w, ws, e) = some_words rest in
    ap (λ more. is_plain (spelled (word ∷ more))) e ∙ more_plain (verb_of word) w ws

-- a line of more than one word does not quit
pub more_goes_on : (word rest : List ℕ) → is_quit (spelled (word ∷ words_of rest)) ≡ false
more_goes_on word rest = plain_quit (spelled (word ∷ words_of rest)) (rest_plain word rest)

alone_memory : (o : Option Verb) → is_memory (asked o []) ≡ false
alone_memory None = refl
alone_memory (Some verbs.Load) = refl
alone_memory (Some verb) = refl

words_memory : (words : List (List ℕ)) → is_memory (spelled words) ≡ false
words_memory [] = refl
words_memory (word ∷ []) = alone_memory (verb_of word)
words_memory (word ∷ w ∷ ws) = plain_memory (asked (verb_of word) (w ∷ ws)) (more_plain (verb_of word) w ws)

line_memory : (b : Bool) (words : List (List ℕ)) → is_memory (cond b (spelled words) (Err (BadLine faults.Command))) ≡ false
line_memory true words = words_memory words
line_memory false words = refl

-- what a line spells is never the want of memory
pub never_memory : (line : List ℕ) → command_of line ≡ Err OutOfMemory → ⊥
never_memory line e = let h = line_memory (is_utf8 line) (words_of line) in let g : is_memory (command_of line) ≡ true = ap is_memory e in cc
