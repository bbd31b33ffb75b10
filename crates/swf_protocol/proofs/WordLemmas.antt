-- Words of a text and of the text behind them.
use Rattle.std.proofs.Common.{◌≡◌, ◌≢◌, ◌∙◌, ap, sym, refl, ℕ, ◌<◌, List, [], ◌∷◌, ◌++◌, length, get_or, Bool, true, false, cond, Option, Some, None, MatchOption, arith}
use Rattle.std.specs.Borrow.{Bor}
use Rattle.std.specs.List.{All, onto_first}
use Rattle.std.proofs.lemmas.Bool.{ne_eqb}
use Rattle.std.proofs.lemmas.List.Elements.{All-from_get_or}
use Rattle.std.proofs.lemmas.List.Splits.{slice_split_none, slice_split_at, join_with_byte-slice_split}
use Rattle.std.proofs.lemmas.Str.Pattern.{IsSplitOnceResult, split_parts}
use Rattle.swf_protocol.specs.Words.{is_space, words_of, joined, AreSeveral}

none_spaced : (w : List ℕ) → ((i : ℕ) → i < length w → get_or w i 0 ≢ 32) → All (λ b. is_space b ≡ false) w
none_spaced w h = All-from_get_or (λ b. is_space b ≡ false) w 0 (λ i lt. ne_eqb (get_or w i 0) 32 (h i lt))

-- a word without a space, and then a space and more
pub words_behind : (w more : List ℕ) → All (λ b. is_space b ≡ false) w → words_of (w ++ 32 ∷ more) ≡ w ∷ words_of more
words_behind w more h = slice_split_at is_space w 32 more h refl

cut_by : (text : List ℕ) (r : Option (Bor (List ℕ) × Bor (List ℕ))) → MatchOption r ((i : ℕ) → i < length text → get_or text i 0 ≢ 32) (λ p. (text ≡ p.0.now ++ (32 ∷ p.1.now)) × ((i : ℕ) → i < length p.0.now → get_or p.0.now i 0 ≢ 32)) → MatchOption r (words_of text ≡ text ∷ []) (λ p. words_of text ≡ p.0.now ∷ words_of p.1.now)
cut_by text None h = slice_split_none is_space text (none_spaced text h)
cut_by text (Some p) h = ap words_of h.0 ∙ words_behind p.0.now p.1.now (none_spaced p.0.now h.1)

-- what is split off at the first space is the first word, and what is left has the others
pub cut_words : (text : List ℕ) (r : Option (Bor (List ℕ) × Bor (List ℕ))) → IsSplitOnceResult 32 text r → MatchOption r (words_of text ≡ text ∷ []) (λ p. words_of text ≡ p.0.now ∷ words_of p.1.now)
cut_words text r h = cut_by text r (split_parts 32 text r h (omega arith))

pub joined_words : (text : List ℕ) → joined (words_of text) ≡ text
joined_words text = join_with_byte-slice_split 32 text

by_test : (b : Bool) (x : ℕ) (ws : List (List ℕ)) → (w : List ℕ) × (more : List (List ℕ)) × (cond b ([] ∷ ws) (onto_first x ws) ≡ w ∷ more)
by_test true x ws = ([], ws, refl)
by_test false x [] = (x ∷ [], [], refl)
by_test false x (w ∷ ws) = (x ∷ w, ws, refl)

pub some_words : (text : List ℕ) → (w : List ℕ) × (more : List (List ℕ)) × (words_of text ≡ w ∷ more)
some_words [] = ([], [], refl)
some_words (x ∷ xs) = by_test (is_space x) x (words_of xs)

-- a word and those of a text are two words or more
pub several_words : (text word rest : List ℕ) → words_of text ≡ word ∷ words_of rest → AreSeveral (words_of text)
several_words text word rest e = let (w, ws, f) = some_words rest in (word, w, ws, e ∙ ap (λ more. word ∷ more) f)

-- what is read from the words of a text, where there are any, is read from the text
pub from_rest : {A : Type 0} (f : List (List ℕ) → A) (g : List ℕ → A) → ((w : List ℕ) (ws : List (List ℕ)) → f (w ∷ ws) ≡ g (joined (w ∷ ws))) → (text : List ℕ) → f (words_of text) ≡ g text
from_rest f g same text =
    let (w, ws, e) = some_words text in
    ap f e ∙ same w ws ∙ ap g (ap joined (sym e) ∙ joined_words text)
