-- The brackets that are open, the innermost first.
use Rattle.std.specs.Prelude.{◌==◌, ◌||◌, ℕ, List, ◌∷◌, Option, Some, None, Result, Ok, Err, length, drop, nat_le, if◌then◌else◌}
use Rattle.swf_jq_tokens.specs.declared.fault.ParseFault.{ParseFault}
use Rattle.swf_jq_tokens.specs.declared.fault.ParseFault.TheVariants as fault
use Rattle.swf_jq_tokens.specs.declared.nest.Bracket.{Bracket}
use Rattle.swf_jq_tokens.specs.declared.nest.Bracket.TheVariants as bracket

abbrev pub Nest : Type 0
Nest = List Bracket

-- the brackets that are open behind a token, or the fault that stands right behind it
abbrev pub Behind : Type 0
Behind = Result Nest ParseFault

abbrev pub behind : Nest → Option ParseFault → Behind
behind n None = Ok n
behind n (Some f) = Err f

-- inside a bracket that opens at a place; none may open inside 64 others
abbrev pub inside : Nest → ℕ → Bracket → Behind
inside n at b = if nat_le 64 (length n) then Err (fault.TooDeep at) else Ok (b ∷ n)

-- what stays open where the innermost closes
abbrev pub closed : Nest → Nest
closed n = drop 1 n

-- the place of the text that goes on where the innermost closes, if that is a `\(`
abbrev pub text_inside : Nest → Option ℕ
text_inside (bracket.Text start ∷ n) = Some start
text_inside n = None

-- behind a character that opens no text and ends none
abbrev pub around : Nest → ℕ → ℕ → Behind
around n at c =
    if (c == 40) || (c == 91) || (c == 123) then inside n at bracket.Plain
    else (if (c == 41) || (c == 93) || (c == 125) then Ok (closed n) else Ok n)
