-- The number that digits come to.
use Rattle.std.proofs.Common.{◌≡◌, ◌∙◌, ap, sym, ℕ, ◌+◌, ◌*◌, ◌<◌, List, [], ◌∷◌, ◌++◌, length, get_or, take, min, true, arith}
use Rattle.std.specs.Char.{digit_value}
use Rattle.std.specs.Str.Parse.{digits_value}
use Rattle.std.proofs.lemmas.Bool.Decides.{nat_tests}
use Rattle.std.proofs.lemmas.Int.Digits.{digits_value_push}
use Rattle.std.proofs.lemmas.List.{take_more}
use Rattle.swf_jq_tokens.specs.Words.{is_digit}

pub digit_is : (c : ℕ) → digit_value c < 10 → is_digit c ≡ true
digit_is c h = grind (arith, nat_tests)

-- one digit more
pub digits_more : (first i d : ℕ) (cs : List ℕ) → i < length cs → d ≡ get_or cs i d → digits_value 10 (first ∷ take (i + 1) cs) ≡ digits_value 10 (first ∷ take i cs) * 10 + digit_value d
digits_more first i d cs h e =
    ap (λ l. digits_value 10 (first ∷ l)) (take_more cs i d h ∙ ap (λ x. take i cs ++ x ∷ []) (sym e)) ∙ digits_value_push 10 (first ∷ take i cs) d

-- held below a limit at each step
pub held : (most value product sum d e v w : ℕ) → value ≡ min v most → product ≡ min (value * 10) most → sum ≡ min (product + d) most → d ≡ e → w ≡ v * 10 + e → sum ≡ min w most
held most value product sum d e v w hv hp hs hd hw = omega arith
