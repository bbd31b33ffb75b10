-- What stands before the last `/` of a text, by its bytes.
use Rattle.std.proofs.Common.{◌≡◌, ◌∙◌, ap, sym, subst, cond, ℕ, suc, add-one, ◌+◌, ◌<◌, ◌==◌, List, [], ◌∷◌, ◌++◌, length, get_or, take, drop, take-append-drop, Bool, true, false, not, Some, None, chars, encode_utf8, IsUtf8, length-append, arith, refl}
use Rattle.std.specs.List.{list_all}
use Rattle.std.specs.Str.{encode_utf8_all, IsCharBoundary, NoCharPasses}
use Rattle.std.specs.Str.Pattern.{RFindsChar}
use Rattle.std.proofs.Math.Seq.{take-append_seam, get_or-append_seam}
use Rattle.std.proofs.lemmas.Bool.{ne_eqb, eqb-true}
use Rattle.std.proofs.lemmas.List.Elements.{All-from_get_or}
use Rattle.std.proofs.lemmas.List.Folds.{list_all-append}
use Rattle.std.proofs.lemmas.List.Sums.{list_all-from_AllPass}
use Rattle.std.proofs.lemmas.Str.{encode_ascii, encodes-chars, chars-append, chars_past_char, IsUtf8-take, IsUtf8-drop, IsCharBoundary-before_ascii, IsCharBoundary-after_ascii}
use Rattle.std.proofs.lemmas.Str.Pattern.{NoCharPasses-char, drop_at_char}
use Rattle.swf_text.proofs.SameLemmas.{both_true}
use Rattle.swf_meaning.specs.Reply.{or_here, before_last}

-- no `/` is among these
abbrev unmarked : List ℕ → Bool
unmarked t = list_all (λ b. not (b == 47)) t

marked : true ≡ unmarked (encode_utf8 47) → ⊥
marked p = cc (p ∙ ap unmarked (encode_ascii 47 (omega arith)))

other : (c : ℕ) → unmarked (encode_utf8 c) ≡ true → (c == 47) ≡ false
other c h = by (c == 47) refl
  where
    by : (b : Bool) → (c == 47) ≡ b → b ≡ false
    by true e = absurd (marked (sym h ∙ ap unmarked (ap encode_utf8 (eqb-true c 47 e))))
    by false e = refl

-- nothing stands before a `/` where no byte is one
none_marked : (cs : List ℕ) → unmarked (encode_utf8_all cs) ≡ true → before_last 47 cs ≡ None
none_marked [] h = refl
none_marked (c ∷ cs) h =
    let p = both_true (unmarked (encode_utf8 c)) (unmarked (encode_utf8_all cs)) (sym (list_all-append (λ b. not (b == 47)) (encode_utf8 c) (encode_utf8_all cs)) ∙ h) in
    ap (or_here 47 c) (none_marked cs p.1) ∙ ap (λ b. cond b (Some []) None) (other c p.0)

unmarked_by : (bs : List ℕ) → NoCharPasses (λ d. d == 47) bs → unmarked bs ≡ true
unmarked_by bs h = list_all-from_AllPass (λ b. not (b == 47)) bs (All-from_get_or (λ b. not (b == 47) ≡ true) bs 0 (λ i lt. ap not (ne_eqb (get_or bs i 0) 47 (NoCharPasses-char 47 bs i h (omega arith) lt))))

pub none_before : (bs : List ℕ) → IsUtf8 bs → NoCharPasses (λ d. d == 47) bs → before_last 47 (chars bs) ≡ None
none_before bs u h = none_marked (chars bs) (ap unmarked (encodes-chars bs u) ∙ unmarked_by bs h)

before_at : (xs ys : List ℕ) → before_last 47 ys ≡ None → before_last 47 (xs ++ 47 ∷ ys) ≡ Some xs
before_at [] ys h = ap (or_here 47 47) h
before_at (x ∷ xs) ys h = ap (or_here 47 x) (before_at xs ys h)

drop_seam : (xs rest : List ℕ) → drop (length xs) (xs ++ (47 ∷ rest)) ≡ 47 ∷ rest
drop_seam [] rest = refl
drop_seam (x ∷ xs) rest = drop_seam xs rest

drop_past : (xs rest : List ℕ) → drop (suc (length xs)) (xs ++ (47 ∷ rest)) ≡ rest
drop_past [] rest = refl
drop_past (x ∷ xs) rest = drop_past xs rest

-- what stands before the last one of a text
some_before : (bs id rest : List ℕ) → IsUtf8 bs → bs ≡ id ++ (47 ∷ rest) → NoCharPasses (λ d. d == 47) rest → before_last 47 (chars bs) ≡ Some (chars id)
some_before bs id rest u e h =
    let within : length id < length bs = omega (arith, ap length e, length-append id (47 ∷ rest)) in
    let here : get_or bs (length id) 0 ≡ 47 = ap (λ t. get_or t (length id) 0) e ∙ get_or-append_seam id 47 rest 0 in
    let low : get_or bs (length id) 0 < 128 = omega (arith, here) in
    let cut : IsCharBoundary bs (length id) = IsCharBoundary-before_ascii bs (length id) within low in
    let before : IsUtf8 id = subst IsUtf8 (ap (take (length id)) e ∙ take-append_seam id (47 ∷ rest)) (IsUtf8-take bs (length id) u cut) in
    let from : IsUtf8 (47 ∷ rest) = subst IsUtf8 (ap (drop (length id)) e ∙ drop_seam id rest) (IsUtf8-drop bs (length id) u cut) in
    let behind : IsUtf8 rest = subst IsUtf8 (ap (λ n. drop n bs) (add-one (length id)) ∙ ap (drop (suc (length id))) e ∙ drop_past id rest) (IsUtf8-drop bs (length id + 1) u (IsCharBoundary-after_ascii bs (length id) u within low)) in
    ap (before_last 47) (ap chars e ∙ chars-append id (47 ∷ rest) before ∙ ap (λ cs. chars id ++ cs) (chars_past_char (47 ∷ rest) rest 47 from (sym (ap (λ b. b ++ rest) (encode_ascii 47 (omega arith))))))
    ∙ before_at (chars id) (chars rest) (none_before rest behind h)

-- the same of a text that was split at its last one
pub split_before : (bs id rest : List ℕ) (i j : ℕ) → IsUtf8 bs → RFindsChar 47 bs (Some (i, j)) → id ≡ take i bs → rest ≡ drop j bs → before_last 47 (chars bs) ≡ Some (chars id)
split_before bs id rest i j u found front back =
    some_before bs id rest u (sym (take-append-drop i bs) ∙ (λ k. sym front k ++ (drop_at_char 47 bs i j found.1 (omega arith) ∙ ap (λ l. 47 ∷ l) (sym back)) k))
    (subst (NoCharPasses (λ d. d == 47)) (sym back) found.0)
