-- The names that an expression may give a value (jq 1.7 manual, «Variable / Symbolic Binding Operator»).
use Rattle.std.specs.Prelude.{◌==◌, ◌&&◌, ◌||◌, ℕ, List, [], ◌∷◌, Bool, false, not, codes, nat_le}
use Rattle.std.specs.Cmp.Lexicographic.{pointwise}
use Rattle.std.specs.List.{list_all, list_any}

-- a letter or `_`
abbrev pub starts_name : ℕ → Bool
starts_name c = (nat_le 97 c && nat_le c 122) || (nat_le 65 c && nat_le c 90) || (c == 95)

-- a letter, a digit or `_`
abbrev pub goes_on_name : ℕ → Bool
goes_on_name c = starts_name c || (nat_le 48 c && nat_le c 57)

-- a letter or `_`, then letters, digits and `_`
abbrev pub is_word : List ℕ → Bool
is_word [] = false
is_word (c ∷ cs) = starts_name c && list_all goes_on_name cs

-- the words that are no names
abbrev pub keywords : List (List ℕ)
keywords = codes "as" ∷ codes "or" ∷ codes "and" ∷ codes "if" ∷ codes "then" ∷ codes "elif" ∷ codes "else" ∷ codes "end" ∷ codes "null" ∷ codes "true" ∷ codes "false" ∷ []

-- whether a word is a keyword
abbrev pub is_keyword : List ℕ → Bool
is_keyword t = list_any (pointwise ◌==◌ t) keywords

-- a word that is no keyword
abbrev pub is_name : List ℕ → Bool
is_name t = is_word t && not (is_keyword t)
