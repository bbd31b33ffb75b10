-- The words of a line, which single spaces split.
use Rattle.std.specs.Prelude.{◌≡◌, ◌==◌, ◌&&◌, ◌||◌, ℕ, List, ◌∷◌, Bool, not, length, nat_le, nat_lt}
use Rattle.std.specs.List.{list_all, slice_split, join_with_byte}
use Rattle.swf_text.specs.Ascii.{is_digit, is_letter}

abbrev pub is_space : ℕ → Bool
is_space b = b == 32

abbrev pub is_unspaced : List ℕ → Bool
is_unspaced t = list_all (λ b. not (is_space b)) t

-- a line is split at each space
abbrev pub words_of : List ℕ → List (List ℕ)
words_of line = slice_split is_space line

-- words with a space between each two
abbrev pub joined : List (List ℕ) → List ℕ
joined words = join_with_byte 32 words

-- two words or more
abbrev pub AreSeveral : List (List ℕ) → Type 0
AreSeveral words = (first second : List ℕ) × (more : List (List ℕ)) × (words ≡ first ∷ second ∷ more)

-- of a letter or digit, `-`, `_` or `.`
abbrev pub is_id_char : ℕ → Bool
is_id_char b = is_letter b || is_digit b || b == 45 || b == 95 || b == 46

-- 1 to 64 letters, digits, `-`, `_` and `.`
abbrev pub is_id : List ℕ → Bool
is_id t = nat_lt 0 (length t) && nat_le (length t) 64 && list_all is_id_char t
