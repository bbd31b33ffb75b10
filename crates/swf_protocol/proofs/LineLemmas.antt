-- What is read from the words of a text is read from the text, where the last argument is the rest of the line.
use Rattle.std.proofs.Common.{◌≡◌, ◌∙◌, ◌⊎◌, inl, inr, ap, sym, refl, cond, List, ℕ, ◌∷◌, Bool, true, false, Option, Some, Err, IsUtf8}
use Rattle.std.specs.Str.{is_utf8}
use Rattle.std.proofs.lemmas.Str.{is_utf8-from_IsUtf8, IsUtf8-from_is_utf8}
use Rattle.swf_protocol.specs.Line.{load_with, load_line, key_of, start_with, start_line, event_with, event_line, reply_with, reply_line, pending_line, quit_line, line_of, asked, spelled, command_of}
use Rattle.swf_protocol.specs.declared.command.CommandFault.TheVariants.{BadLine}
use Rattle.swf_protocol.specs.declared.command.LineFault.TheVariants as faults
use Rattle.swf_protocol.specs.declared.verb.Verb.{Verb}
use Rattle.swf_protocol.specs.declared.verb.Verb.TheVariants as verbs
use Rattle.swf_protocol.specs.Verbs.{verb_of}
use Rattle.swf_protocol.specs.Words.{words_of}
use Rattle.swf_protocol.proofs.WordLemmas.{from_rest}

pub load_rest : (json : List ℕ) → load_line (words_of json) ≡ load_with json
load_rest json = from_rest load_line load_with (λ w ws. refl) json

pub start_rest : (id namespace name version json : List ℕ) → start_line (id ∷ namespace ∷ name ∷ version ∷ words_of json) ≡ start_with id (key_of namespace name version) json
start_rest id namespace name version json =
    from_rest (λ ws. start_line (id ∷ namespace ∷ name ∷ version ∷ ws)) (start_with id (key_of namespace name version)) (λ w ws. refl) json

pub event_rest : (json : List ℕ) → event_line (words_of json) ≡ event_with json
event_rest json = from_rest event_line event_with (λ w ws. refl) json

pub reply_rest : (activity json : List ℕ) → reply_line (activity ∷ words_of json) ≡ reply_with activity json
reply_rest activity json = from_rest (λ ws. reply_line (activity ∷ ws)) (reply_with activity) (λ w ws. refl) json

-- four words and the rest behind them
pub start_words : (rest r s t id namespace name version json : List ℕ) → words_of rest ≡ id ∷ words_of r → words_of r ≡ namespace ∷ words_of s → words_of s ≡ name ∷ words_of t → words_of t ≡ version ∷ words_of json
    → start_line (words_of rest) ≡ start_with id (key_of namespace name version) json
start_words rest r s t id namespace name version json first second third fourth =
    ap start_line (first ∙ ap (λ ws. id ∷ ws) (second ∙ ap (λ ws. namespace ∷ ws) (third ∙ ap (λ ws. name ∷ ws) fourth))) ∙ start_rest id namespace name version json

pub reply_words : (rest activity json : List ℕ) → words_of rest ≡ activity ∷ words_of json → reply_line (words_of rest) ≡ reply_with activity json
reply_words rest activity json first = ap reply_line first ∙ reply_rest activity json

-- ---- text and bytes

pub utf8_line : (line : List ℕ) → IsUtf8 line → command_of line ≡ spelled (words_of line)
utf8_line line u = ap (λ b. cond b (spelled (words_of line)) (Err (BadLine faults.Command))) (is_utf8-from_IsUtf8 line u)

-- the command of a line, by the words of its text
pub command_is : (line text : List ℕ) → (text ≡ line) × IsUtf8 line → (words : List (List ℕ)) → words_of text ≡ words → command_of line ≡ spelled words
command_is line text u words e = utf8_line line u.1 ∙ ap (λ t. spelled (words_of t)) (sym u.0) ∙ ap spelled e

other : (b : Bool) (line : List ℕ) → is_utf8 line ≡ b → (IsUtf8 line → ⊥) → cond b (spelled (words_of line)) (Err (BadLine faults.Command)) ≡ Err (BadLine faults.Command)
other true line e not_utf8 = absurd (not_utf8 (IsUtf8-from_is_utf8 line e))
other false line e not_utf8 = refl

-- what is no UTF-8 spells no command
pub other_line : (line : List ℕ) → (IsUtf8 line → ⊥) → command_of line ≡ Err (BadLine faults.Command)
other_line line not_utf8 = other (is_utf8 line) line refl not_utf8

-- ---- first words

-- the words behind a first word are those of its command
pub verb_is : (word : List ℕ) (o : Option Verb) (verb known : Verb) → o ≡ verb_of word → o ≡ Some verb → verb ≡ known → (words : List (List ℕ)) → spelled (word ∷ words) ≡ line_of known words
verb_is word o verb known e f g words = ap (λ v. asked v words) (sym e ∙ f ∙ ap Some g)

-- `pending` and `quit` have no arguments
pub pending_or_quit : (word rest : List ℕ) (o : Option Verb) (verb : Verb) → o ≡ verb_of word → o ≡ Some verb → (verb ≡ verbs.Pending) ⊎ (verb ≡ verbs.Quit) → spelled (word ∷ words_of rest) ≡ Err (BadLine faults.Command)
pending_or_quit word rest o verb e f (inl g) = verb_is word o verb verbs.Pending e f g (words_of rest) ∙ from_rest pending_line (λ t. Err (BadLine faults.Command)) (λ w ws. refl) rest
pending_or_quit word rest o verb e f (inr g) = verb_is word o verb verbs.Quit e f g (words_of rest) ∙ from_rest quit_line (λ t. Err (BadLine faults.Command)) (λ w ws. refl) rest
