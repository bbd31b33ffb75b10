-- The pieces of a text (RFC 8259, section 7; jq 1.7 manual, «String interpolation»).
use Rattle.std.specs.Prelude.{◌+◌, ◌==◌, ◌&&◌, ◌++◌, ℕ, Bool, true, false, List, [], ◌∷◌, Option, Some, None, option_and_then, nat_lt, if◌then◌else◌}
use Rattle.std.specs.Option.{option_map_or}
use Rattle.json.specs.Text.{code_unit, short_escape, is_high_surrogate, is_low_surrogate, surrogate_pair, Within, plain, after_backslash, after_u, after_high}
use Rattle.swf_jq_tokens.specs.declared.piece.Piece.{Piece}

-- the end of a piece, whether a `\(` is it, and how many characters it has
abbrev pub ended : Bool → ℕ → Option Piece
ended b n = Some (record { text = []; opens = b; count = n })

-- a piece with these characters before it, which so many spell
abbrev pub grown : List ℕ → ℕ → Option Piece → Option Piece
grown t n None = None
grown t n (Some p) = Some (record { text = t ++ p.text; opens = p.opens; count = n + p.count })

-- what a `(` after a backslash ends
abbrev pub opened : List ℕ → Option Piece
opened [] = None
opened (c ∷ cs) = if c == 40 then ended true 2 else None

-- the piece of which only the end is left
abbrev pub closed : List ℕ → Option Piece
closed [] = None
closed (c ∷ cs) = if c == 34 then ended false 1 else (if c == 92 then opened cs else None)

-- the characters up to a quotation mark or a `\(`, escaped as in JSON; none where a control character or a wrong escape
-- stands, or where there is no end
unfoldable pub piece : Within → List ℕ → Option Piece
piece plain [] = None
piece plain (c ∷ cs) =
    if c == 34 then ended false 1
    else (if c == 92 then piece after_backslash cs
    else (if nat_lt c 32 then None
    else grown (c ∷ []) 1 (piece plain cs)))
piece after_backslash [] = None
piece after_backslash (c ∷ cs) =
    if c == 117 then piece after_u cs
    else option_map_or (λ d. grown (d ∷ []) 2 (piece plain cs)) (short_escape c) (opened (c ∷ cs))
piece after_u (a ∷ b ∷ c ∷ d ∷ cs) =
    option_and_then (λ u.
    if is_high_surrogate u then piece (after_high u) cs
    else (if is_low_surrogate u then None else grown (u ∷ []) 6 (piece plain cs))) (code_unit a b c d)
piece (after_high h) (s ∷ u ∷ a ∷ b ∷ c ∷ d ∷ cs) =
    if (s == 92) && (u == 117)
    then option_and_then (λ l. if is_low_surrogate l then grown (surrogate_pair h l ∷ []) 12 (piece plain cs) else None) (code_unit a b c d)
    else None
piece w cs = None
