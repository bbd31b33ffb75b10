-- What is read is what the grammar has, and the other way round; where something is refused, nothing else could stand.
use Rattle.std.specs.Prelude.{◌≡◌, ◌<◌, ◌⊎◌, ◌+◌, ◌-◌, ◌^◌, min, ℕ, length, List, [], ◌∷◌, ◌++◌, Ok, Err, None}
use Rattle.swf_expr.specs.Expr.{Tree}
use Rattle.swf_jq_parse.specs.Grammar.{Tokens, Pipe, ArgumentsOf}
use Rattle.swf_jq_parse.specs.Machine.{run}
use Rattle.swf_jq_parse.specs.Parts.{named}
use Rattle.swf_jq_tokens.specs.declared.lexer.End.{End}
use Rattle.swf_jq_tokens.specs.declared.lexer.End.TheVariants as end
use Rattle.swf_jq_tokens.specs.declared.fault.ParseFault.{ParseFault}
use Rattle.swf_jq_tokens.specs.declared.fault.ParseFault.TheVariants as fault
use Rattle.swf_jq_parse.specs.declared.mode.Mode.TheVariants as mode
use Rattle.swf_jq_tokens.specs.declared.token.Sign.TheVariants as sign
use Rattle.swf_jq_tokens.specs.declared.token.Token.{Token}
use Rattle.swf_jq_tokens.specs.declared.token.Token.TheVariants as token

-- tokens with their places
abbrev pub Placed : Type 0
Placed = List (ℕ × Token)

-- the tokens without their places
abbrev pub tokens : Placed → Tokens
tokens [] = []
tokens (t ∷ ts) = t.1 ∷ tokens ts

-- a whole expression of the grammar is read as its tree
abbrev pub IsComplete : Type 0
IsComplete = (ts : Placed) (at : ℕ) (e : Tree) → Pipe (tokens ts) e → run [] mode.Want ts (end.At at) ≡ Ok e

-- what is read is an expression of the grammar
abbrev pub IsSound : Type 0
IsSound = (ts : Placed) (at : ℕ) (e : Tree) → run [] mode.Want ts (end.At at) ≡ Ok e → Pipe (tokens ts) e

-- tokens are an expression of the grammar in one way at most
abbrev pub IsUnambiguous : Type 0
IsUnambiguous = (us : Tokens) (a b : Tree) → Pipe us a → Pipe us b → a ≡ b

-- some expression of the grammar begins with these tokens
abbrev pub GoesOn : Tokens → Type 0
GoesOn us = (ws : Tokens) × (e : Tree) × Pipe (us ++ ws) e

-- the arguments of a name, up to where the next begins, and what is left there
pub data ArgumentsBefore : Tokens → List Tree → Tokens → Type 0 where
  none_before : (us : Tokens) → ArgumentsBefore us [] us
  some_before : (ts us : Tokens) (es : List Tree) → ArgumentsOf ts es (token.Sign sign.Semicolon ∷ us) → ArgumentsBefore ts es us

-- the beginning of an argument stands where the name may have no more
abbrev pub Crowded : Tokens → Type 0
Crowded us = (xs : Tokens) × (x : List ℕ) × (ts : Tokens) × (es : List Tree) × (zs : Tokens)
    × (us ≡ xs ++ token.Name x ∷ token.Sign sign.LeftParen ∷ ts) × ArgumentsBefore ts es zs × ((n : ℕ) → length es < n → named x n ≡ None)

-- some expression begins so, but for the number of a name's arguments, which is told only behind them
abbrev pub Begins : Tokens → Type 0
Begins us = GoesOn us ⊎ Crowded us

-- right before what is left of the tokens stands a name that may not stand without arguments
abbrev pub UnknownAlone : Placed → Placed → ℕ → Type 0
UnknownAlone ts us at = (xs : Placed) × (x : List ℕ) × (ts ≡ xs ++ (at, token.Name x) ∷ us) × (named x 0 ≡ None)

-- right before what is left of the tokens stand a name and arguments of which it may not have so many
abbrev pub UnknownCalled : Placed → Placed → ℕ → Type 0
UnknownCalled ts us at = (xs : Placed) × (x : List ℕ) × (p : ℕ) × (ws : Placed) × (es : List Tree)
    × (ts ≡ xs ++ (at, token.Name x) ∷ (p, token.Sign sign.LeftParen) ∷ ws) × ArgumentsOf (tokens ws) es (tokens us) × (named x (length es) ≡ None)

-- the fault of a token that cannot stand where it and what is after it are left
abbrev pub FaultAt : Placed → ℕ × Token → Placed → ParseFault → Type 0
FaultAt ts t after fault.TooLong = ⊥
FaultAt ts t after (fault.TooDeep at) = ⊥
FaultAt ts t after (fault.NotWhole at) = ⊥
FaultAt ts t after (fault.UnknownName at) =
    ((x : List ℕ) × (t ≡ (at, token.Name x)) × ((n : ℕ) → named x n ≡ None))
    ⊎ (UnknownAlone ts (t ∷ after) at ⊎ (t.1 ≡ token.Sign sign.RightParen) × UnknownCalled ts (t ∷ after) at)
FaultAt ts t after (fault.Syntax at) = (at ≡ t.0) ⊎ (t.1 ≡ token.Dots) × (at ≡ min (t.0 + 1) (2 ^ 64 - 1))
FaultAt ts t after fault.OutOfMemory = ⊥

-- the fault where all tokens could stand
abbrev pub FaultAfter : Placed → End → ParseFault → Type 0
FaultAfter ts (end.At at) f = ((e : Tree) → ¬ (Pipe (tokens ts) e)) × ((f ≡ fault.Syntax at) ⊎ ((p : ℕ) × (f ≡ fault.UnknownName p) × UnknownAlone ts [] p))
FaultAfter ts (end.Fault g) f = (f ≡ g) ⊎ ((p : ℕ) × (f ≡ fault.UnknownName p) × UnknownAlone ts [] p)

-- the fault is that of the first token with which no expression begins, or that of the end
abbrev pub IsFirst : Type 0
IsFirst = (ts : Placed) (end : End) (f : ParseFault) → run [] mode.Want ts end ≡ Err f
    → ((before : Placed) × (t : ℕ × Token) × (after : Placed) × (ts ≡ before ++ t ∷ after)
    × Begins (tokens before) × (¬ (GoesOn (tokens before ++ t.1 ∷ []))) × FaultAt ts t after f)
    ⊎ (Begins (tokens ts) × FaultAfter ts end f)

abbrev pub GrammarLaws : Type 0
GrammarLaws = IsComplete × IsSound × IsUnambiguous × IsFirst
