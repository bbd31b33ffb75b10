-- The lexer on texts whose first token is known.
use Rattle.std.proofs.Common.{◌≡◌, ◌==◌, ◌&&◌, ◌+◌, ◌<◌, ℕ, not, nat_le, ◌∙◌, List, [], ◌∷◌, ◌++◌, length, drop, Bool, true, false, refl, ap, Option, Some, None, Ok, arith, inl, inr, eqb-true, add-one}
use Rattle.std.proofs.Math.Seq.{take-append_seam, drop-append_seam}
use Rattle.std.proofs.lemmas.Bool.{cases_Bool, not-true, or_parts}
pub use Rattle.std.proofs.lemmas.Bool.{and_parts}
use Rattle.std.proofs.lemmas.Bool.Decides.{nat_tests}
use Rattle.std.specs.List.{list_all, prefix_len}
use Rattle.swf_expr.specs.Name.{starts_name, goes_on_name}
use Rattle.swf_jq_tokens.specs.Gives.{◌>>=◌}
use Rattle.swf_jq_tokens.specs.Lexer.{Tokens, End, Lexed, lex, first_is, spelled, place_after, plain_token, sign_at, is_blank, word_or_name}
use Rattle.swf_jq_tokens.specs.Nest.{Nest, inside}
use Rattle.swf_jq_tokens.specs.Words.{keyword_of}
use Rattle.swf_jq_tokens.proofs.TokenSteps.{lex-end, lex-blank, lex-token}
use Rattle.swf_jq_tokens.specs.declared.lexer.End.TheVariants as end
use Rattle.swf_jq_tokens.specs.declared.nest.Bracket.TheVariants as bracket
use Rattle.swf_jq_tokens.specs.declared.token.Sign.{Sign}
use Rattle.swf_jq_tokens.specs.declared.token.Sign.TheVariants as sign
use Rattle.swf_jq_tokens.specs.declared.token.Token.{Token}
use Rattle.swf_jq_tokens.specs.declared.token.Token.TheVariants as token
use Rattle.swf_expr.specs.declared.op.Op.TheVariants as ops

-- ---- the tokens of a text with no fault

abbrev pub longer : Token → Option Tokens → Option Tokens
longer t None = None
longer t (Some ts) = Some (t ∷ ts)

abbrev pub ended : End → Option Tokens
ended (end.At at) = Some []
ended (end.Fault e) = None

-- the tokens without their places, unless there is a fault
abbrev pub bare : Lexed → Option Tokens
bare ([], e) = ended e
bare (t ∷ ts, e) = longer t.1 (bare (ts, e))

-- the tokens of these characters, where these brackets are open
abbrev pub Reads : Nest → List ℕ → Tokens → Type 0
Reads n cs us = (at : ℕ) → bare (lex n at cs) ≡ Some us

pub ends_read : (n : Nest) → Reads n [] []
ends_read n at = ap bare (lex-end n at)

pub blank_reads : (n : Nest) (cs : List ℕ) (us : Tokens) → Reads n cs us → Reads n (32 ∷ cs) us
blank_reads n cs us r at = ap bare (lex-blank n at 32 cs refl) ∙ r (at + 1)

-- the first token is known, and how many characters it has after its first
pub token_reads : (n m : Nest) (c : ℕ) (cs : List ℕ) (t : Token) (k : ℕ) (us : Tokens) → is_blank c ≡ false
    → ((at : ℕ) → spelled n at c cs ≡ Ok (t, k, Ok m)) → Reads m (drop k cs) us → Reads n (c ∷ cs) (t ∷ us)
token_reads n m c cs t k us solid step r at = ap bare (lex-token n m at c cs t k solid (step at)) ∙ ap (longer t) (r (place_after at k cs))

-- ---- characters that no word, number or point goes on with, and characters that make no sign of two with the one before

unfoldable pub breaks : List ℕ → Bool
breaks [] = true
breaks (c ∷ cs) = not (goes_on_name c) && not (c == 46)

unfoldable pub leads : List ℕ → Bool
leads cs = not (first_is (λ d. d == 61) cs) && not (first_is (λ d. d == 47) cs)

pub lead_parts : (cs : List ℕ) → leads cs ≡ true → (first_is (λ d. d == 61) cs ≡ false) × (first_is (λ d. d == 47) cs ≡ false)
unfolding leads
lead_parts cs h =
    let p = and_parts (not (first_is (λ d. d == 61) cs)) (not (first_is (λ d. d == 47) cs)) h in
    (not-true (first_is (λ d. d == 61) cs) p.0, not-true (first_is (λ d. d == 47) cs) p.1)

pub break_parts : (c : ℕ) (cs : List ℕ) → breaks (c ∷ cs) ≡ true → (goes_on_name c ≡ false) × ((c == 46) ≡ false)
unfolding breaks
break_parts c cs h =
    let p = and_parts (not (goes_on_name c)) (not (c == 46)) h in
    (not-true (goes_on_name c) p.0, not-true (c == 46) p.1)

-- ---- words

-- a character of a kind is none that is not
pub not_code : (p : ℕ → Bool) (c k : ℕ) → p c ≡ true → p k ≡ false → (c == k) ≡ false
not_code p c k h g = elim (cases_Bool (c == k)) [
  | inl same ↦ cc (ap p (eqb-true c k same), h, g)
  | inr apart ↦ apart
]

-- no more of a kind than these, where none of it follows
pub front_all : (p : ℕ → Bool) (ys rest : List ℕ) → list_all p ys ≡ true → prefix_len p rest ≡ 0 → prefix_len p (ys ++ rest) ≡ length ys
front_all p [] rest h e = e
front_all p (y ∷ ys) rest h e =
    let g = and_parts (p y) (list_all p ys) h in
    rw g.0 (omega (arith, front_all p ys rest g.1 e))

break_front : (cs : List ℕ) → breaks cs ≡ true → prefix_len goes_on_name cs ≡ 0
break_front [] h = refl
break_front (c ∷ cs) h = rw (break_parts c cs h).0 refl

-- a character of a word or a number is no blank, and begins no text and no bracket
pub solid : (c : ℕ) → goes_on_name c ≡ true → is_blank c ≡ false
solid c h = rw (not_code goes_on_name c 32 h refl, not_code goes_on_name c 9 h refl, not_code goes_on_name c 13 h refl, not_code goes_on_name c 10 h refl) refl

pub plainly : (n : Nest) (at c : ℕ) (cs : List ℕ) → goes_on_name c ≡ true → spelled n at c cs ≡ (plain_token at c cs >>= λ r. Ok (r.0, r.1, Ok n))
unfolding spelled
plainly n at c cs h =
    rw (not_code goes_on_name c 34 h refl, not_code goes_on_name c 40 h refl, not_code goes_on_name c 41 h refl, not_code goes_on_name c 91 h refl, not_code goes_on_name c 93 h refl, not_code goes_on_name c 123 h refl, not_code goes_on_name c 125 h refl) refl

-- a word at the front
pub word_reads : (n : Nest) (c : ℕ) (ys rest : List ℕ) (us : Tokens) → starts_name c ≡ true → list_all goes_on_name ys ≡ true → breaks rest ≡ true
    → Reads n rest us → Reads n (c ∷ (ys ++ rest)) (word_or_name (c ∷ ys) (keyword_of (c ∷ ys)) ∷ us)
unfolding plain_token
word_reads n c ys rest us h g b r =
    let k = front_all goes_on_name ys rest g (break_front rest b) in
    token_reads n n c (ys ++ rest) (word_or_name (c ∷ ys) (keyword_of (c ∷ ys))) (length ys) us (solid c (rw h refl))
    (λ at. plainly n at c (ys ++ rest) (rw h refl) ∙ rw (h, k, take-append_seam ys rest) refl) (rw (drop-append_seam ys rest) r)

-- a variable at the front
pub var_reads : (n : Nest) (c : ℕ) (ys rest : List ℕ) (us : Tokens) → starts_name c ≡ true → list_all goes_on_name ys ≡ true → keyword_of (c ∷ ys) ≡ None → breaks rest ≡ true
    → Reads n rest us → Reads n (36 ∷ c ∷ (ys ++ rest)) (token.Var (c ∷ ys) ∷ us)
unfolding spelled plain_token
var_reads n c ys rest us h g free b r =
    let k = front_all goes_on_name ys rest g (break_front rest b) in
    token_reads n n 36 (c ∷ (ys ++ rest)) (token.Var (c ∷ ys)) (length ys + 1) us refl
    (λ at. rw (h, k, take-append_seam ys rest, free) refl) (rw (add-one, drop-append_seam ys rest) r)

-- ---- signs

pub dot_reads : (n : Nest) (rest : List ℕ) (us : Tokens) → breaks rest ≡ true → Reads n rest us → Reads n (46 ∷ rest) (token.Dot ∷ us)
unfolding spelled plain_token
dot_reads n [] us b r = token_reads n n 46 [] token.Dot 0 us refl (λ at. refl) r
dot_reads n (c ∷ cs) us b r =
    let p = break_parts c cs b in
    token_reads n n 46 (c ∷ cs) token.Dot 0 us refl (λ at. rw ((or_parts (starts_name c) _ p.0).0, p.1) refl) r

-- a character that is a sign and never begins one of two
abbrev pub Lone : ℕ → Sign → Type 0
Lone c g = (is_blank c ≡ false) × ((n : Nest) (at : ℕ) (cs : List ℕ) → spelled n at c cs ≡ Ok (token.Sign g, 0, Ok n))

pub lone_reads : (n : Nest) (c : ℕ) (g : Sign) (rest : List ℕ) (us : Tokens) → Lone c g → Reads n rest us → Reads n (c ∷ rest) (token.Sign g ∷ us)
lone_reads n c g rest us h r = token_reads n n c rest (token.Sign g) 0 us h.0 (λ at. h.1 n at rest) r

pub comma_lone : Lone 44 sign.Comma
unfolding spelled plain_token sign_at
comma_lone = (refl, λ n at cs. refl)

pub pipe_lone : Lone 124 sign.Pipe
unfolding spelled plain_token sign_at
pipe_lone = (refl, λ n at cs. refl)

pub semicolon_lone : Lone 59 sign.Semicolon
unfolding spelled plain_token sign_at
semicolon_lone = (refl, λ n at cs. refl)

pub colon_lone : Lone 58 sign.Colon
unfolding spelled plain_token sign_at
colon_lone = (refl, λ n at cs. refl)

pub question_lone : Lone 63 sign.Question
unfolding spelled plain_token sign_at
question_lone = (refl, λ n at cs. refl)

pub subtract_lone : Lone 45 (sign.Op ops.Subtract)
unfolding spelled plain_token sign_at
subtract_lone = (refl, λ n at cs. refl)

-- a character that opens a bracket
abbrev pub Opens : ℕ → Sign → Type 0
Opens c g = (is_blank c ≡ false) × ((n : Nest) (at : ℕ) (cs : List ℕ) → spelled n at c cs ≡ Ok (token.Sign g, 0, inside n at bracket.Plain))

pub open_reads : (n : Nest) (c : ℕ) (g : Sign) (rest : List ℕ) (us : Tokens) → Opens c g → length n < 64 → Reads (bracket.Plain ∷ n) rest us → Reads n (c ∷ rest) (token.Sign g ∷ us)
open_reads n c g rest us h room r =
    let room : nat_le 64 (length n) ≡ false = grind (arith, nat_tests) in
    token_reads n (bracket.Plain ∷ n) c rest (token.Sign g) 0 us h.0 (λ at. h.1 n at rest ∙ rw room refl) r

-- a character that closes one
abbrev pub Closes : ℕ → Sign → Type 0
Closes c g = (is_blank c ≡ false) × ((n : Nest) (at : ℕ) (cs : List ℕ) → spelled (bracket.Plain ∷ n) at c cs ≡ Ok (token.Sign g, 0, Ok n))

pub close_reads : (n : Nest) (c : ℕ) (g : Sign) (rest : List ℕ) (us : Tokens) → Closes c g → Reads n rest us → Reads (bracket.Plain ∷ n) (c ∷ rest) (token.Sign g ∷ us)
close_reads n c g rest us h r = token_reads (bracket.Plain ∷ n) n c rest (token.Sign g) 0 us h.0 (λ at. h.1 n at rest) r
