-- Runs of bytes that stand for themselves.
use Rattle.std.proofs.Common.{◌≡◌, ◌∙◌, ap, sym, ℕ, ◌+◌, ◌-◌, ◌<◌, List, [], ◌∷◌, ◌++◌, length, get_or, drop, take, flat_map, drop-cons, add-one, append_assoc, length-append, arith}
use Rattle.std.proofs.lemmas.List.{take_at}
use Rattle.swf_value.specs.Written.{escaped_byte}

byte_at : (bs : List ℕ) (i : ℕ) → i < length bs → drop i bs ≡ get_or bs i 0 ∷ drop (i + 1) bs
byte_at bs i h = rw add-one (drop-cons bs i 0 h)

-- a run that goes on with one more byte that stands for itself
pub run_on : (bs run out whole : List ℕ) (s i : ℕ) → i < length bs → drop s bs ≡ run ++ drop i bs → s + length run ≡ i
    → escaped_byte (get_or bs i 0) ≡ get_or bs i 0 ∷ [] → out ++ (run ++ flat_map escaped_byte (drop i bs)) ≡ whole
    → (drop s bs ≡ (run ++ get_or bs i 0 ∷ []) ++ drop (i + 1) bs) × (s + length (run ++ get_or bs i 0 ∷ []) ≡ i + 1)
    × (out ++ ((run ++ get_or bs i 0 ∷ []) ++ flat_map escaped_byte (drop (i + 1) bs)) ≡ whole)
run_on bs run out whole s i h from size plain e =
    let b = get_or bs i 0 in
    let rest = drop (i + 1) bs in
    let at : drop i bs ≡ b ∷ rest = byte_at bs i h in
    let says : flat_map escaped_byte (drop i bs) ≡ b ∷ flat_map escaped_byte rest = ap (flat_map escaped_byte) at ∙ ap (λ l. l ++ flat_map escaped_byte rest) plain in (
      from ∙ ap (λ l. run ++ l) at ∙ sym (append_assoc run (b ∷ []) rest),
      omega (arith, size, length-append run (b ∷ [])),
      ap (λ l. out ++ l) (append_assoc run (b ∷ []) (flat_map escaped_byte rest) ∙ ap (λ l. run ++ l) (sym says)) ∙ e,
    )

-- the bytes of a run, as a slice gives them
run_is : (bs run : List ℕ) (s i : ℕ) → drop s bs ≡ run ++ drop i bs → s + length run ≡ i → take (i - s) (drop s bs) ≡ run
run_is bs run s i from size = ap (take (i - s)) from ∙ take_at run (drop i bs) (i - s) (omega (arith, size))

-- a run, and the byte after it
pub run_written : (bs run out more whole : List ℕ) (s i : ℕ) → i < length bs → drop s bs ≡ run ++ drop i bs → s + length run ≡ i
    → more ≡ (out ++ take (i - s) (drop s bs)) ++ escaped_byte (get_or bs i 0) → out ++ (run ++ flat_map escaped_byte (drop i bs)) ≡ whole
    → more ++ flat_map escaped_byte (drop (i + 1) bs) ≡ whole
run_written bs run out more whole s i h from size p e =
    let b = get_or bs i 0 in
    let rest = flat_map escaped_byte (drop (i + 1) bs) in
    let says : flat_map escaped_byte (drop i bs) ≡ escaped_byte b ++ rest = ap (flat_map escaped_byte) (byte_at bs i h) in
    ap (λ l. l ++ rest) (p ∙ ap (λ l. (out ++ l) ++ escaped_byte b) (run_is bs run s i from size))
    ∙ append_assoc (out ++ run) (escaped_byte b) rest ∙ append_assoc out run (escaped_byte b ++ rest)
    ∙ ap (λ l. out ++ (run ++ l)) (sym says) ∙ e
