-- The value of a header, as its bytes.
use Rattle.std.proofs.Common.{◌≡◌, ◌∙◌, sym, subst, refl, ℕ, List, [], ◌∷◌, Bool, true, not, ◌&&◌, ◌||◌, nat_lt, reverse, arith}
use Rattle.std.specs.List.{list_all}
use Rattle.std.specs.Str.{encode_utf8_all}
use Rattle.std.proofs.lemmas.Bool.Decides.{nat_tests}
use Rattle.std.proofs.lemmas.Str.{encodes-IsAscii}
use Rattle.swf_text.specs.Same.{is_ascii}
use Rattle.swf_text.proofs.SameLemmas.{both_true, all_ascii}
use Rattle.swf_calls.specs.Request.{begins_blank, is_blank, is_field_value, is_visible}

abbrev is_value_character : ℕ → Bool
is_value_character c = is_visible c || is_blank c

low : (c : ℕ) → is_value_character c ≡ true → nat_lt c 128 ≡ true
low c is = grind (arith, nat_tests)

ascii : (t : List ℕ) → list_all is_value_character t ≡ true → is_ascii t ≡ true
ascii [] all = refl
ascii (c ∷ t) all =
    let p = both_true (is_value_character c) (list_all is_value_character t) all in
    rw (low c p.0) (ascii t p.1)

-- where all characters may stand in a value, they are its bytes
pub value_by_bytes : (t bytes : List ℕ) (r : Bool) → true ≡ list_all (λ c. is_visible c || is_blank c) t → bytes ≡ encode_utf8_all t
    → r ≡ (not (begins_blank bytes) && not (begins_blank (reverse bytes))) → r ≡ is_field_value t
value_by_bytes t bytes r all is e =
    let same : bytes ≡ t = is ∙ encodes-IsAscii t (all_ascii t (ascii t (sym all))) in
    let now : r ≡ (not (begins_blank t) && not (begins_blank (reverse t))) =
    subst (λ (b : List ℕ). r ≡ (not (begins_blank b) && not (begins_blank (reverse b)))) same e in
    rw (sym all) now
