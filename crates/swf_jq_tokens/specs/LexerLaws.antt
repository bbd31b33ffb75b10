-- The tokens of a text, one after another.
use Rattle.std.specs.Prelude.{◌≡◌, ◌+◌, ℕ, List, [], ◌∷◌, true, false, Ok, Err, drop}
use Rattle.swf_jq_tokens.specs.Lexer.{last, also, lex, spelled, place_after, is_blank}
use Rattle.swf_jq_tokens.specs.Nest.{Nest}
use Rattle.swf_jq_tokens.specs.declared.fault.ParseFault.{ParseFault}
use Rattle.swf_jq_tokens.specs.declared.lexer.End.TheVariants as end
use Rattle.swf_jq_tokens.specs.declared.token.Token.{Token}

-- a text ends, or begins with a blank, with a token (behind which the others are read, or a fault stands), or with a fault
abbrev pub LexerLaws : Type 0
LexerLaws =
    ((n : Nest) (at : ℕ) → lex n at [] ≡ last (end.At at))
    × ((n : Nest) (at c : ℕ) (cs : List ℕ) → is_blank c ≡ true → lex n at (c ∷ cs) ≡ lex n (at + 1) cs)
    × ((n m : Nest) (at c : ℕ) (cs : List ℕ) (t : Token) (k : ℕ) → is_blank c ≡ false → spelled n at c cs ≡ Ok (t, k, Ok m)
    → lex n at (c ∷ cs) ≡ also at t (lex m (place_after at k cs) (drop k cs)))
    × ((n : Nest) (at c : ℕ) (cs : List ℕ) (t : Token) (k : ℕ) (e : ParseFault) → is_blank c ≡ false → spelled n at c cs ≡ Ok (t, k, Err e) → lex n at (c ∷ cs) ≡ also at t (last (end.Fault e)))
    × ((n : Nest) (at c : ℕ) (cs : List ℕ) (e : ParseFault) → is_blank c ≡ false → spelled n at c cs ≡ Err e → lex n at (c ∷ cs) ≡ last (end.Fault e))
