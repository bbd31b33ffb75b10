-- Lists whose newest element stands last, seen with the newest first.
use Rattle.std.proofs.Common.{◌≡◌, ◌∙◌, ℕ, zero, suc, ◌+◌, ◌-◌, ◌<◌, ◌≤◌, ap, sym, refl, List, [], ◌∷◌, ◌++◌, Bool, true, false, nat_le, length, get_or, reverse, take, cond, nat_eq, arith, Result, Ok, Err, IfOk}
use Rattle.std.proofs.lemmas.List.{reverse-append, take_more, take_all}
use Rattle.std.proofs.lemmas.Bool.{leb-true, leb-false, false≢true}
use Rattle.swf_cycles.specs.Search.{rest, up_to}

-- one more at the end is the first
pub newest : {A : Type 0} (xs : List A) (x : A) → reverse (xs ++ x ∷ []) ≡ x ∷ reverse xs
newest xs x = reverse-append xs (x ∷ [])

-- without the last
pub older : {A : Type 0} (xs : List A) (d : A) → 0 < length xs → reverse xs ≡ get_or xs (length xs - 1) d ∷ reverse (take (length xs - 1) xs)
older xs d h =
    let n = length xs - 1 in
    let whole : xs ≡ take n xs ++ get_or xs n d ∷ [] = sym (take_all (n + 1) xs (omega arith)) ∙ take_more xs n d (omega arith) in
    ap reverse whole ∙ newest (take n xs) (get_or xs n d)

pub rest_older : (xs : List ℕ) → rest (reverse xs) ≡ reverse (take (length xs - 1) xs)
rest_older [] = refl
rest_older (x ∷ xs) = ap rest (older (x ∷ xs) 0 (omega arith))

-- a last start that lies too late
pub up_to_more : (p : ℕ) (xs : List ℕ) → 0 < length xs → p < get_or xs (length xs - 1) 0 → up_to p (reverse xs) ≡ up_to p (reverse (take (length xs - 1) xs))
up_to_more p xs h b = ap (up_to p) (older xs 0 h) ∙ by (nat_le t p) refl
  where
    t : ℕ
    t = get_or xs (length xs - 1) 0

    r : List ℕ
    r = reverse (take (length xs - 1) xs)

    by : (c : Bool) → nat_le t p ≡ c → cond c (t ∷ r) (up_to p r) ≡ up_to p r
    by false e = refl
    by true e = absurd (omega (arith, b, leb-true t p e))

-- a last start that lies no later
pub up_to_all : (p : ℕ) (xs : List ℕ) → (0 < length xs → get_or xs (length xs - 1) 0 ≤ p) → up_to p (reverse xs) ≡ reverse xs
up_to_all p [] h = refl
up_to_all p (x ∷ xs) h = ap (up_to p) e ∙ by (nat_le t p) refl ∙ sym e
  where
    t : ℕ
    t = get_or (x ∷ xs) (length (x ∷ xs) - 1) 0

    r : List ℕ
    r = reverse (take (length (x ∷ xs) - 1) (x ∷ xs))

    e : reverse (x ∷ xs) ≡ t ∷ r
    e = older (x ∷ xs) 0 (omega arith)

    by : (c : Bool) → nat_le t p ≡ c → cond c (t ∷ r) (up_to p r) ≡ t ∷ r
    by true q = refl
    by false q = absurd (omega (arith, h (omega arith), leb-false t p q))

pub first_of : {A : Type 0} (xs : List A) (x : A) → 0 < length xs → x ≡ get_or xs (length xs - 1) x → reverse xs ≡ x ∷ reverse (take (length xs - 1) xs)
first_of xs x h e = older xs x h ∙ ap (λ y. y ∷ reverse (take (length xs - 1) xs)) (sym e)

-- the newest start, read at the end
pub newest_start : (xs : List ℕ) (m t : ℕ) → m ≡ length xs → 0 < m → t ≡ get_or xs (m - 1) t → reverse xs ≡ t ∷ reverse (take (length xs - 1) xs)
newest_start xs m t q h e = first_of xs t (omega (arith, q, h)) (e ∙ ap (λ k. get_or xs (k - 1) t) q)

pub some_left : (n : ℕ) (b : Bool) → b ≡ nat_eq n 0 → b ≡ false → 0 < n
some_left zero b e f = absurd (false≢true (sym f ∙ e))
some_left (suc n) b e f = omega arith

pub none_left : (xs : List ℕ) → length xs ≡ 0 → reverse xs ≡ []
none_left [] e = refl
none_left (x ∷ xs) e = absurd (omega (arith, e))

pub as_far : {A E : Type 0} (r : Result A E) (P Q : A → Type 0) → ((x : A) → P x → Q x) → IfOk r P → IfOk r Q
as_far (Ok x) P Q f p = f x p
as_far (Err e) P Q f p = p
