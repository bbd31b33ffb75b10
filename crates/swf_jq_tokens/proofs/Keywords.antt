-- Words and keywords.
use Rattle.std.proofs.Common.{◌≡◌, refl, ℕ, one-add, List, [], ◌∷◌, map, Bool, true, false, None, inl, inr, IsTrue}
use Rattle.std.proofs.lemmas.Bool.{cases_Bool}
use Rattle.std.specs.List.{list_all, list_any, take_while}
use Rattle.swf_expr.specs.Name.{starts_name, goes_on_name, is_word, is_keyword, is_name}
use Rattle.swf_text.specs.Same.{same, is_ascii}
use Rattle.swf_jq_tokens.specs.Words.{word, keyword_text, all_keywords, keyword_in, keyword_of}
use Rattle.swf_jq_tokens.specs.declared.token.Keyword.{Keyword}
use Rattle.swf_jq_tokens.specs.declared.token.Keyword.TheVariants as keyword

all_front : (p : ℕ → Bool) (cs : List ℕ) → list_all p (take_while p cs) ≡ true
all_front p [] = refl
all_front p (c ∷ cs) = elim (cases_Bool (p c)) [
  | inl fits ↦ rw (fits, one-add, fits) (all_front p cs)
  | inr apart ↦ rw apart refl
]

pub word_is : (c : ℕ) (cs : List ℕ) → starts_name c ≡ true → is_word (word c cs) ≡ true
word_is c cs h = rw h (all_front goes_on_name cs)

-- ---- keywords

pub ascii_keyword : (k : Keyword) → IsTrue (is_ascii (keyword_text k))
ascii_keyword keyword.As = refl
ascii_keyword keyword.Or = refl
ascii_keyword keyword.And = refl
ascii_keyword keyword.If = refl
ascii_keyword keyword.Then = refl
ascii_keyword keyword.Elif = refl
ascii_keyword keyword.Else = refl
ascii_keyword keyword.End = refl
ascii_keyword keyword.Null = refl
ascii_keyword keyword.True = refl
ascii_keyword keyword.False = refl

none_in : (t : List ℕ) (ks : List Keyword) → keyword_in ks t ≡ None → list_any (same t) (map keyword_text ks) ≡ false
none_in t [] e = refl
none_in t (k ∷ ks) e = elim (cases_Bool (same t (keyword_text k))) [
  | inl fits ↦ cc (rw fits at e)
  | inr apart ↦ rw apart (none_in t ks (rw apart at e))
]

-- a word that is no keyword is a name
pub name_is : (t : List ℕ) → is_word t ≡ true → keyword_of t ≡ None → is_name t ≡ true
unfolding keyword_of
name_is t h e =
    let k : is_keyword t ≡ false = none_in t all_keywords e in
    rw h (rw k refl)
