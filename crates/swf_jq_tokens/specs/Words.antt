-- The keywords and their spelling, and words.
use Rattle.std.specs.Prelude.{◌&&◌, ℕ, Bool, List, [], ◌∷◌, Option, Some, None, codes, nat_le, if◌then◌else◌}
use Rattle.std.specs.List.{prefix_len, take_while}
use Rattle.swf_expr.specs.Name.{goes_on_name}
use Rattle.swf_text.specs.Same.{same}
use Rattle.swf_jq_tokens.specs.declared.token.Keyword.{Keyword}
use Rattle.swf_jq_tokens.specs.declared.token.Keyword.TheVariants as keyword

-- the word that a keyword is, in ASCII
abbrev pub keyword_text : Keyword → List ℕ
keyword_text keyword.As = codes "as"
keyword_text keyword.Or = codes "or"
keyword_text keyword.And = codes "and"
keyword_text keyword.If = codes "if"
keyword_text keyword.Then = codes "then"
keyword_text keyword.Elif = codes "elif"
keyword_text keyword.Else = codes "else"
keyword_text keyword.End = codes "end"
keyword_text keyword.Null = codes "null"
keyword_text keyword.True = codes "true"
keyword_text keyword.False = codes "false"

-- each keyword once
abbrev pub all_keywords : List Keyword
all_keywords = keyword.As ∷ keyword.Or ∷ keyword.And ∷ keyword.If ∷ keyword.Then ∷ keyword.Elif ∷ keyword.Else ∷ keyword.End ∷ keyword.Null ∷ keyword.True ∷ keyword.False ∷ []

-- the first of these that is spelled so
abbrev pub keyword_in : List Keyword → List ℕ → Option Keyword
keyword_in [] t = None
keyword_in (k ∷ ks) t = if same t (keyword_text k) then Some k else keyword_in ks t

-- the keyword that a word is
unfoldable pub keyword_of : List ℕ → Option Keyword
keyword_of t = keyword_in all_keywords t

-- the word that a character begins, which goes on as far as letters, digits and `_` do
abbrev pub word : ℕ → List ℕ → List ℕ
word c cs = c ∷ take_while goes_on_name cs

-- how many characters it has after the first
abbrev pub word_length : List ℕ → ℕ
word_length cs = prefix_len goes_on_name cs

abbrev pub is_digit : ℕ → Bool
is_digit c = nat_le 48 c && nat_le c 57
