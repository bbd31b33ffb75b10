-- The replies that are left, by their places.
use Rattle.std.proofs.Common.{◌≡◌, refl, ℕ, zero, suc, ◌+◌, ◌<◌, List, [], ◌∷◌, length, drop, get_or, map, Vec, Global, arith}

-- what replies give
abbrev pub bytes_of : List (Vec ℕ Global) → List (List ℕ)
bytes_of replies = map (λ v. v.items) replies

pub next_left : (replies : List (Vec ℕ Global)) (n : ℕ) (d : Vec ℕ Global) → n < length replies
    → drop n (bytes_of replies) ≡ (get_or replies n d).items ∷ drop (n + 1) (bytes_of replies)
next_left [] n d within = absurd (omega (arith, within))
next_left (v ∷ vs) zero d within = refl
next_left (v ∷ vs) (suc n) d within =
    let e : suc n + 1 ≡ suc (n + 1) = omega arith in
    rw e (next_left vs n d (omega (arith, within)))
