-- A text of at most 4,096 bytes is read by its tokens, one after another.
use Rattle.std.proofs.Common.{◌≡◌, ◌∙◌, ◌<◌, ◌≤◌, ℕ, List, [], ◌∷◌, Result, Ok, Err, ap, sym, length, nat_lt, chars}
use Rattle.std.specs.Prelude.{if◌then◌else◌}
use Rattle.std.specs.Str.{IsUtf8}
use Rattle.std.proofs.lemmas.Bool.{lt-ltb, le-ltb}
use Rattle.std.proofs.lemmas.Str.{encodes-chars}
use Rattle.swf_jq_tokens.specs.Gives.{◌>>=◌, Fails}
use Rattle.swf_jq_tokens.specs.Lexer.{lex}
use Rattle.swf_jq_parse.specs.Machine.{Step, step, run}
use Rattle.swf_jq_parse.specs.Parse.{read_of, parse_of}
use Rattle.swf_jq_parse.specs.declared.mode.Mode.{Mode}
use Rattle.swf_jq_parse.specs.declared.stack.Item.{Item}
use Rattle.swf_jq_tokens.specs.declared.lexer.End.{End}
use Rattle.swf_jq_tokens.specs.declared.token.Token.{Token}
use Rattle.swf_jq_tokens.specs.declared.fault.ParseFault.{ParseFault}
use Rattle.swf_jq_tokens.specs.declared.fault.ParseFault.TheVariants as fault

-- what fails first fails in all
pub fails_first : {X Y : Type 0} (e : ParseFault) (x : Result X ParseFault) (f : X → Result Y ParseFault) → Fails e x → Fails e (x >>= f)
fails_first fault.OutOfMemory x f h = tt
fails_first e x f h = ap (λ z. z >>= f) h

-- a token is taken
pub run_goes : (s r : List Item) (m n : Mode) (at : ℕ) (t : Token) (ts : List (ℕ × Token)) (end : End) → step s m at t ≡ Ok (r, n) → run r n ts end ≡ run s m ((at, t) ∷ ts) end
unfolding run
run_goes s r m n at t ts end h = sym (ap (λ (x : Step). x >>= λ q. run q.0 q.1 ts end) h)

-- a token is refused
pub run_fails : (s : List Item) (m : Mode) (at : ℕ) (t : Token) (ts : List (ℕ × Token)) (end : End) (e : ParseFault) → Fails e (step s m at t) → Fails e (run s m ((at, t) ∷ ts) end)
unfolding run
run_fails s m at t ts end e h = fails_first e (step s m at t) (λ q. run q.0 q.1 ts end) h

-- a text with too many bytes
pub parse_long : (bs : List ℕ) → IsUtf8 bs → 4096 < length bs → parse_of (chars bs) ≡ Err fault.TooLong
unfolding parse_of
parse_long bs u h = ap (λ b. if b then Err fault.TooLong else read_of (lex [] 0 (chars bs))) (ap (λ x. nat_lt 4096 (length x)) (encodes-chars bs u) ∙ lt-ltb 4096 (length bs) h)

-- a text with not too many bytes
pub parse_short : (bs : List ℕ) → IsUtf8 bs → length bs ≤ 4096 → parse_of (chars bs) ≡ read_of (lex [] 0 (chars bs))
unfolding parse_of
parse_short bs u h = ap (λ b. if b then Err fault.TooLong else read_of (lex [] 0 (chars bs))) (ap (λ x. nat_lt 4096 (length x)) (encodes-chars bs u) ∙ le-ltb 4096 (length bs) h)
