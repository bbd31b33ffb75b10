-- A number is read again from its digits.
use Rattle.std.proofs.Common.{◌≡◌, ◌∙◌, ap, refl, rules, ℕ, zero, suc, ◌+◌, ◌-◌, ◌*◌, ◌^◌, ◌<◌, ◌≤◌, ◌==◌, ◌&&◌, ◌||◌, List, length, get_or, slice_index, Bool, true, false, cond, not, Some, None, fold, arith, lt-ltb, le-leb}
use Rattle.std.specs.Fmt.{decimal}
use Rattle.std.specs.List.{list_all}
use Rattle.std.proofs.lemmas.Bool.{ne_eqb}
use Rattle.std.proofs.lemmas.Fmt.{decimal_digit, decimal_nonempty, first_decimal, digits_decimal, digits_value-decimal}
use Rattle.std.proofs.lemmas.Str.Parse.{IsNumeralModel, numerals_by_fold}
use Rattle.swf_text.specs.Ascii.{is_digit}
use Rattle.swf_protocol.specs.Number.{value_of_digits, number_of, budget, budget_of, in_time, moment_in, greatest_budget, last_moment}

pub own : IsNumeralModel (λ ds. list_all is_digit ds ≡ true) value_of_digits
own = numerals_by_fold _ (search rules) (λ n ds. fold (λ m d. m * 10 + (d - 48)) n ds) (search rules)

both : (a b : Bool) → a ≡ true → b ≡ true → (a && b) ≡ true
both a b p q = ap (λ x. x && b) p ∙ q

or_second : (a b : Bool) → b ≡ true → (a || b) ≡ true
or_second true b h = refl
or_second false b h = h

taken : (b : Bool) (v n : ℕ) → b ≡ true → v ≡ n → cond b (Some v) None ≡ Some n
taken true v n h e = ap Some e
taken false v n h e = cc

abbrev leads : List ℕ → Bool
leads ds = length ds == 1 || not (slice_index ds 0 == 48)

leads_decimal : (n : ℕ) → n < 2 ^ 64 → leads (decimal n) ≡ true
leads_decimal zero h = ap leads (decimal_digit 0 (omega arith))
leads_decimal (suc n) h =
    let first : 48 < get_or (decimal (suc n)) 0 0 = first_decimal (suc n) (omega arith) h in
    or_second _ _ (ap not (ne_eqb (get_or (decimal (suc n)) 0 0) 48 (λ e. omega (arith, first, e))))

number_by : (ds : List ℕ) (n : ℕ) → 0 < length ds → list_all is_digit ds ≡ true → leads ds ≡ true → value_of_digits ds ≡ n → n < 2 ^ 64 → number_of ds ≡ Some n
number_by ds n some digits first is small =
    let fits : value_of_digits ds < 2 ^ 64 = omega (arith, is, small) in
    taken _ (value_of_digits ds) n (both _ _ (both _ _ (both _ _ (lt-ltb 0 (length ds) some) digits) first) (lt-ltb (value_of_digits ds) (2 ^ 64) fits)) is

pub number_again : (n : ℕ) → n < 2 ^ 64 → number_of (decimal n) ≡ Some n
number_again n h = number_by (decimal n) n (decimal_nonempty n h) (digits_decimal own n h) (leads_decimal n h) (digits_value-decimal own n h) h

pub budget_again : (n : ℕ) → 0 < n → n ≤ greatest_budget → budget_of (decimal n) ≡ Some n
budget_again n some few = ap budget (number_again n (omega (arith, few))) ∙ taken _ n n (both _ _ (lt-ltb 0 n some) (le-leb n greatest_budget few)) refl

pub moment_again : (n : ℕ) → n ≤ last_moment → moment_in (decimal n) ≡ Some n
moment_again n h = ap in_time (number_again n (omega (arith, h))) ∙ taken _ n n (le-leb n last_moment h) refl
