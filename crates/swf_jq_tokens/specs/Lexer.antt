-- The tokens of a text (jq 1.7 manual). Characters stand by their codes, and a place counts the bytes before it.
use Rattle.std.specs.Prelude.{◌+◌, ◌-◌, ◌^◌, ◌==◌, ◌&&◌, ◌||◌, ℕ, zero, suc, Bool, false, not, List, [], ◌∷◌, Option, Some, None, Result, Ok, Err, nat_lt, take, drop, if◌then◌else◌}
use Rattle.std.specs.Char.{len_utf8}
use Rattle.std.specs.List.{prefix_len, sum_by}
use Rattle.std.specs.Option.{ok_or}
use Rattle.std.specs.Str.Parse.{digits_value}
use Rattle.swf_expr.specs.Name.{starts_name}
use Rattle.swf_expr.specs.declared.op.Op.TheVariants as ops
use Rattle.swf_jq_tokens.specs.Gives.{◌>>=◌}
pub use Rattle.swf_jq_tokens.specs.Nest.{Behind, behind}
use Rattle.swf_jq_tokens.specs.Nest.{Nest, inside, closed, text_inside, around}
use Rattle.json.specs.Text.{plain}
use Rattle.swf_jq_tokens.specs.Piece.{piece}
use Rattle.swf_jq_tokens.specs.Words.{keyword_of, word, word_length, is_digit}
use Rattle.swf_jq_tokens.specs.declared.fault.ParseFault.{ParseFault}
use Rattle.swf_jq_tokens.specs.declared.fault.ParseFault.TheVariants as fault
pub use Rattle.swf_jq_tokens.specs.declared.lexer.End.{End}
use Rattle.swf_jq_tokens.specs.declared.lexer.End.TheVariants as end
use Rattle.swf_jq_tokens.specs.declared.nest.Bracket.TheVariants as bracket
use Rattle.swf_jq_tokens.specs.declared.piece.Piece.{Piece}
use Rattle.swf_jq_tokens.specs.declared.token.Keyword.{Keyword}
use Rattle.swf_jq_tokens.specs.declared.token.Sign.TheVariants as sign
use Rattle.swf_jq_tokens.specs.declared.token.Token.{Token}
use Rattle.swf_jq_tokens.specs.declared.token.Token.TheVariants as token

abbrev pub Tokens : Type 0
Tokens = List Token

-- ---- tokens that are no texts, each with how many characters it has after its first

-- the test of the first character
abbrev pub first_is : (ℕ → Bool) → List ℕ → Bool
first_is p [] = false
first_is p (c ∷ cs) = p c

abbrev pub word_or_name : List ℕ → Option Keyword → Token
word_or_name t None = token.Name t
word_or_name t (Some k) = token.Keyword k

-- a keyword or a name, of a first character and those after it
abbrev pub word_token : ℕ → List ℕ → Token × ℕ
word_token c cs = (word_or_name (word c cs) (keyword_of (word c cs)), word_length cs)

-- what a `.` begins: `.` and a word, the first of two points, or a lone point
abbrev pub dot : List ℕ → Token × ℕ
dot [] = (token.Dot, 0)
dot (c ∷ cs) =
    if starts_name c then (token.Field (word c cs), word_length cs + 1)
    else (if c == 46 then (token.Dots, 0) else (token.Dot, 0))

abbrev pub unless_keyword : Token × ℕ → Option Keyword → Option (Token × ℕ)
unless_keyword r None = Some r
unless_keyword r (Some k) = None

-- what a `$` begins: `$` and a name
abbrev pub variable : List ℕ → Option (Token × ℕ)
variable [] = None
variable (c ∷ cs) = if starts_name c then unless_keyword (token.Var (word c cs), word_length cs + 1) (keyword_of (word c cs)) else None

-- what a `.` or a `$` begins
abbrev pub prefixed : ℕ → List ℕ → Option (Token × ℕ)
prefixed c cs = if c == 46 then Some (dot cs) else (if c == 36 then variable cs else None)

abbrev pub signed_digit_first : List ℕ → Bool
signed_digit_first [] = false
signed_digit_first (c ∷ cs) = ((c == 43) || (c == 45)) && first_is is_digit cs

-- whether a fraction or an exponent stands at the front
abbrev pub goes_on : List ℕ → Bool
goes_on [] = false
goes_on (c ∷ cs) = ((c == 46) && first_is is_digit cs) || (((c == 101) || (c == 69)) && (first_is is_digit cs || signed_digit_first cs))

-- a number, where it is in range and no fraction and no exponent follows it
abbrev pub whole_number : ℕ → ℕ → List ℕ → Option (Token × ℕ)
whole_number v n cs = if nat_lt v (2 ^ 53) && not (goes_on cs) then Some (token.Number v, n) else None

-- how many digits follow the first: after a `0` none
abbrev pub more_digits : ℕ → List ℕ → ℕ
more_digits c cs = if c == 48 then 0 else prefix_len is_digit cs

-- `0`, or digits of which the first is not `0`
abbrev pub number : ℕ → List ℕ → Option (Token × ℕ)
number c cs = whole_number (digits_value 10 (c ∷ take (more_digits c cs) cs)) (more_digits c cs) (drop (more_digits c cs) cs)

-- a sign: of two characters, where they are one
unfoldable pub sign_at : ℕ → List ℕ → Option (Token × ℕ)
sign_at c cs =
    if (c == 47) && first_is (λ d. d == 47) cs then Some (token.Sign sign.Alternative, 1)
    else (if (c == 61) && first_is (λ d. d == 61) cs then Some (token.Sign (sign.Op ops.Equal), 1)
    else (if (c == 33) && first_is (λ d. d == 61) cs then Some (token.Sign (sign.Op ops.NotEqual), 1)
    else (if (c == 60) && first_is (λ d. d == 61) cs then Some (token.Sign (sign.Op ops.AtMost), 1)
    else (if (c == 62) && first_is (λ d. d == 61) cs then Some (token.Sign (sign.Op ops.AtLeast), 1)
    else (if c == 40 then Some (token.Sign sign.LeftParen, 0)
    else (if c == 41 then Some (token.Sign sign.RightParen, 0)
    else (if c == 91 then Some (token.Sign sign.LeftBracket, 0)
    else (if c == 93 then Some (token.Sign sign.RightBracket, 0)
    else (if c == 123 then Some (token.Sign sign.LeftBrace, 0)
    else (if c == 125 then Some (token.Sign sign.RightBrace, 0)
    else (if c == 44 then Some (token.Sign sign.Comma, 0)
    else (if c == 124 then Some (token.Sign sign.Pipe, 0)
    else (if c == 59 then Some (token.Sign sign.Semicolon, 0)
    else (if c == 58 then Some (token.Sign sign.Colon, 0)
    else (if c == 63 then Some (token.Sign sign.Question, 0)
    else (if c == 60 then Some (token.Sign (sign.Op ops.Less), 0)
    else (if c == 62 then Some (token.Sign (sign.Op ops.Greater), 0)
    else (if c == 43 then Some (token.Sign (sign.Op ops.Add), 0)
    else (if c == 45 then Some (token.Sign (sign.Op ops.Subtract), 0)
    else (if c == 42 then Some (token.Sign (sign.Op ops.Multiply), 0)
    else (if c == 47 then Some (token.Sign (sign.Op ops.Divide), 0)
    else (if c == 37 then Some (token.Sign (sign.Op ops.Modulo), 0)
    else None))))))))))))))))))))))

-- the token that a character begins which opens no text and ends none
unfoldable pub plain_token : ℕ → ℕ → List ℕ → Result (Token × ℕ) ParseFault
plain_token at c cs =
    if starts_name c then Ok (word_token c cs)
    else (if is_digit c then ok_or (number c cs) (fault.NotWhole at)
    else (if (c == 46) || (c == 36) then ok_or (prefixed c cs) (fault.Syntax at)
    else ok_or (sign_at c cs) (fault.Syntax at)))

-- ---- tokens that are texts, each with what stands behind it

-- a token, how many characters it has after its first, and what stands behind it
abbrev pub Spelled : Type 0
Spelled = Token × ℕ × Behind

-- the place behind a token of a place, of so many of these characters after its first
abbrev pub place_after : ℕ → ℕ → List ℕ → ℕ
place_after at n cs = at + 1 + sum_by len_utf8 (take n cs)

-- a text, or its beginning up to a `\(`, which has two bytes
abbrev pub text : Nest → ℕ → List ℕ → Option Piece → Result Spelled ParseFault
text n at cs None = Err (fault.Syntax at)
text n at cs (Some p) =
    if p.opens then Ok (token.TextOpen p.text, p.count, inside n (place_after at p.count cs - 2) (bracket.Text at))
    else Ok (token.Text p.text, p.count, Ok n)

-- the `)` of a `\(` and the piece behind it, which may have a fault, of a text that begins at `start`
abbrev pub text_on : Nest → ℕ → Option Piece → Spelled
text_on n start None = (token.TextClose [], 0, Err (fault.Syntax start))
text_on n start (Some p) = if p.opens then (token.TextMid p.text, p.count, Ok n) else (token.TextClose p.text, p.count, Ok (closed n))

-- ---- one token after another

abbrev pub other : Nest → ℕ → ℕ → List ℕ → Result Spelled ParseFault
other n at c cs = plain_token at c cs >>= λ r. Ok (r.0, r.1, around n at c)

-- a `)`, where a text may go on
abbrev pub paren : Nest → ℕ → List ℕ → Option ℕ → Result Spelled ParseFault
paren n at cs None = other n at 41 cs
paren n at cs (Some start) = Ok (text_on n start (piece plain cs))

-- the token of a first character and those after it
unfoldable pub spelled : Nest → ℕ → ℕ → List ℕ → Result Spelled ParseFault
spelled n at c cs =
    if c == 34 then text n at cs (piece plain cs)
    else (if c == 41 then paren n at cs (text_inside n)
    else other n at c cs)

-- space, tab, CR and LF
abbrev pub is_blank : ℕ → Bool
is_blank c = (c == 32) || (c == 9) || (c == 13) || (c == 10)

-- tokens with their places, and how they end
abbrev pub Lexed : Type 0
Lexed = List (ℕ × Token) × End

-- no token before this end
abbrev pub last : End → Lexed
last e = ([], e)

-- a token of a place before others
abbrev pub also : ℕ → Token → Lexed → Lexed
also at t r = ((at, t) ∷ r.0, r.1)

-- what is open behind a token leads to others, a fault to none
abbrev pub lexed_behind : (Nest → Lexed) → Behind → Lexed
lexed_behind rest (Err e) = last (end.Fault e)
lexed_behind rest (Ok n) = rest n

-- a token of a place, with what its count and what is open behind it lead to; or a fault
abbrev pub lexed_of : ℕ → (ℕ → Nest → Lexed) → Result Spelled ParseFault → Lexed
lexed_of at rest (Err e) = last (end.Fault e)
lexed_of at rest (Ok s) = also at s.0 (lexed_behind (rest s.1) s.2)

-- the tokens of characters that begin at a place, of which so many belong to a token before them
unfoldable pub lex_after : ℕ → Nest → ℕ → List ℕ → Lexed
lex_after k n at [] = last (end.At at)
lex_after (suc k) n at (c ∷ cs) = lex_after k n (at + len_utf8 c) cs
lex_after zero n at (c ∷ cs) =
    if is_blank c then lex_after 0 n (at + 1) cs
    else lexed_of at (λ k m. lex_after k m (at + 1) cs) (spelled n at c cs)

-- the tokens of characters that begin at a place, where these brackets are open
abbrev pub lex : Nest → ℕ → List ℕ → Lexed
lex n at cs = lex_after 0 n at cs
