-- The lexer on the digits of a number.
use Rattle.std.proofs.Common.{◌≡◌, ◌∙◌, ◌==◌, ◌&&◌, ◌<◌, ◌^◌, ℕ, zero, suc, not, List, [], ◌∷◌, ◌++◌, length, get_or, true, false, refl, ap, sym, nat_lt, nat_le, decimal, subst, arith, lt-ltb}
use Rattle.std.proofs.Math.Seq.{take-append_seam, drop-append_seam}
use Rattle.std.proofs.lemmas.Bool.{or_parts, or_right}
use Rattle.std.proofs.lemmas.Bool.Decides.{nat_tests}
use Rattle.std.proofs.lemmas.Fmt.{digits_is_IsNumeral, decimal_digit, first_decimal}
use Rattle.std.specs.List.{list_all, prefix_len}
use Rattle.std.specs.Str.Parse.{digits_value, AllDigits}
use Rattle.swf_expr.specs.Name.{starts_name, goes_on_name}
use Rattle.swf_jq_tokens.specs.Lexer.{Tokens, plain_token, more_digits, goes_on}
use Rattle.swf_jq_tokens.specs.Nest.{Nest}
use Rattle.swf_jq_tokens.specs.Words.{is_digit}
use Rattle.swf_jq_tokens.specs.declared.token.Token.TheVariants as token
use Rattle.swf_jq_tokens.proofs.Decimals.{digit_is}
use Rattle.swf_jq_tokens.proofs.Lexing.{Reads, token_reads, breaks, leads, break_parts, and_parts, front_all, not_code, solid, plainly}

all_digits : (ds : List ℕ) → AllDigits 10 ds → list_all is_digit ds ≡ true
all_digits [] h = refl
all_digits (d ∷ ds) h = rw (digit_is d h.0) (all_digits ds h.1)

digit_goes_on : (c : ℕ) → is_digit c ≡ true → goes_on_name c ≡ true
digit_goes_on c h = or_right (starts_name c) (nat_le 48 c && nat_le c 57) h

no_letter : (c : ℕ) → is_digit c ≡ true → starts_name c ≡ false
no_letter c h = grind (arith, nat_tests)

-- ---- where a number ends

front_end : (cs : List ℕ) → breaks cs ≡ true → prefix_len is_digit cs ≡ 0
front_end [] h = refl
front_end (c ∷ cs) h = rw (or_parts (starts_name c) (is_digit c) (break_parts c cs h).0).1 refl

no_code : (c k : ℕ) → goes_on_name c ≡ false → goes_on_name k ≡ true → (c == k) ≡ false
no_code c k h g = not_code (λ d. not (goes_on_name d)) c k (rw h refl) (rw g refl)

whole_end : (cs : List ℕ) → breaks cs ≡ true → goes_on cs ≡ false
whole_end [] h = refl
whole_end (c ∷ cs) h =
    let w = break_parts c cs h in
    rw (w.1, no_code c 101 w.0 refl, no_code c 69 w.0 refl) refl

-- ---- a number at the front

digits_read : (m : Nest) (n c : ℕ) (ds rest : List ℕ) (us : Tokens) → is_digit c ≡ true → more_digits c (ds ++ rest) ≡ length ds → digits_value 10 (c ∷ ds) ≡ n → n < 2 ^ 53 → breaks rest ≡ true
    → Reads m rest us → Reads m (c ∷ (ds ++ rest)) (token.Number n ∷ us)
unfolding plain_token
digits_read m n c ds rest us d k v h b r =
    token_reads m m c (ds ++ rest) (token.Number n) (length ds) us (solid c (digit_goes_on c d))
    (λ at. plainly m at c (ds ++ rest) (digit_goes_on c d) ∙ rw (no_letter c d, d, k, take-append_seam ds rest, drop-append_seam ds rest, v, lt-ltb n (2 ^ 53) h, whole_end rest b) refl)
    (rw (drop-append_seam ds rest) r)

-- digits that begin a number above 0
record Digits (n : ℕ) (ds : List ℕ) : Type 0 where
  all : list_all is_digit ds ≡ true
  value : digits_value 10 ds ≡ n
  first : 48 < get_or ds 0 0

decimal_is : (n : ℕ) → 0 < n → n < 2 ^ 53 → Digits n (decimal n)
decimal_is n p h =
    let d = digits_is_IsNumeral 10 false (omega arith) (omega arith) n (omega arith) in
    record { all = all_digits (decimal n) d.0.1; value = d.1; first = first_decimal n p (omega arith) }

positive_reads : (m : Nest) (n : ℕ) (ds rest : List ℕ) (us : Tokens) → n < 2 ^ 53 → Digits n ds → breaks rest ≡ true → Reads m rest us → Reads m (ds ++ rest) (token.Number n ∷ us)
positive_reads m n [] rest us h d b r = absurd (omega (arith, d.first))
positive_reads m n (c ∷ ds) rest us h d b r =
    let all = and_parts (is_digit c) (list_all is_digit ds) d.all in
    let above : (c == 48) ≡ false = not_code (nat_lt 48) c 48 (lt-ltb 48 c d.first) refl in
    digits_read m n c ds rest us all.0 (rw above (front_all is_digit ds rest all.1 (front_end rest b))) d.value h b r

pub number_reads : (m : Nest) (n : ℕ) (rest : List ℕ) (us : Tokens) → n < 2 ^ 53 → breaks rest ≡ true → Reads m rest us → Reads m (decimal n ++ rest) (token.Number n ∷ us)
number_reads m zero rest us h b r =
    subst (λ (x : List ℕ). Reads m (x ++ rest) (token.Number 0 ∷ us)) (sym (decimal_digit 0 (omega arith))) (digits_read m 0 48 [] rest us refl refl refl h b r)
number_reads m (suc n) rest us h b r = positive_reads m (suc n) (decimal (suc n)) rest us h (decimal_is (suc n) (omega arith) h) b r

-- ---- a number makes no sign of two with what stands before it

digits_lead : (ds rest : List ℕ) → list_all is_digit ds ≡ true → 48 < get_or ds 0 0 → leads (ds ++ rest) ≡ true
unfolding leads
digits_lead [] rest d p = absurd (omega arith)
digits_lead (c ∷ ds) rest d p =
    let all = and_parts (is_digit c) (list_all is_digit ds) d in
    rw (not_code is_digit c 61 all.0 refl, not_code is_digit c 47 all.0 refl) refl

pub number_leads : (n : ℕ) (rest : List ℕ) → n < 2 ^ 53 → leads (decimal n ++ rest) ≡ true
unfolding leads
number_leads zero rest h = ap (λ (x : List ℕ). leads (x ++ rest)) (decimal_digit 0 (omega arith))
number_leads (suc n) rest h =
    let d = decimal_is (suc n) (omega arith) h in
    digits_lead (decimal (suc n)) rest d.all d.first
