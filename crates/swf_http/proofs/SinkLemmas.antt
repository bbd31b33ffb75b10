-- One write more.
use Rattle.std.proofs.Common.{◌≡◌, ℕ, ◌+◌, ◌-◌, ◌≤◌, List, [], ◌++◌, zero, suc, ◌∷◌, length, take, drop, refl, sym, ap, ◌∙◌, arith, append_assoc, take-append-drop, length-drop, Option, Some}
use Rattle.std.proofs.lemmas.List.{take_all}
use Rattle.swf_http.specs.Sinks.{WrotePart}

pub part : (bytes before : List ℕ) (at : ℕ) → WrotePart bytes before (before ++ take at bytes)
part bytes before at = record {
  part = take at bytes;
  rest = drop at bytes;
  begins = sym (take-append-drop at bytes);
  is = refl;
}

take_on : (at n : ℕ) (bytes : List ℕ) → at ≤ length bytes → take at bytes ++ take n (drop at bytes) ≡ take (at + n) bytes
take_on zero n bytes le = ap (λ (k : ℕ). take k bytes) (omega arith)
take_on (suc at) n [] le = absurd (omega arith)
take_on (suc at) n (x ∷ bytes) le =
    let on : suc at + n ≡ suc (at + n) = omega arith in
    ap (λ (t : List ℕ). x ∷ t) (take_on at n bytes (omega arith)) ∙ sym (ap (λ (k : ℕ). take k (x ∷ bytes)) on)

pub one_more : (bytes before window : List ℕ) (at n : ℕ) (now : Option (List ℕ)) → at ≤ length bytes
    → window ≡ take (length bytes - at) (drop at bytes)
    → now ≡ Some ((before ++ take at bytes) ++ take n window) → now ≡ Some (before ++ take (at + n) bytes)
one_more bytes before window at n now le is told =
    let all : window ≡ drop at bytes =
    is ∙ take_all (length bytes - at) (drop at bytes) (omega (arith, length-drop at bytes)) in
    told ∙ ap (λ (w : List ℕ). Some ((before ++ take at bytes) ++ take n w)) all
    ∙ ap Some (append_assoc before (take at bytes) (take n (drop at bytes)) ∙ ap (λ (t : List ℕ). before ++ t) (take_on at n bytes le))
