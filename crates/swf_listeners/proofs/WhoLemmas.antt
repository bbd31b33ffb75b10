-- Going over those that may take an event, one after another, in place of all instances.
use Rattle.std.proofs.Common.{◌≡◌, ◌∙◌, refl, ap, sym, subst, cond, ℕ, zero, suc, ◌+◌, ◌<◌, List, [], ◌∷◌, ◌++◌, Bool, true, false, arith, append-nil}
use Rattle.std.proofs.lemmas.List.{append_assoc}
use Rattle.swf_listeners.specs.Listeners.{numbers_where}

-- so many numbers from this one on, of which those that pass the test
abbrev pub numbers_from : (ℕ → Bool) → ℕ → ℕ → List ℕ
numbers_from test k zero = []
numbers_from test k (suc m) = cond (test k) (k ∷ numbers_from test (suc k) m) (numbers_from test (suc k) m)

from_where : (test : ℕ → Bool) (m k : ℕ) → numbers_where test (m + k) ≡ numbers_where test k ++ numbers_from test k m
from_where test zero k = let same : 0 + k ≡ k = omega arith in ap (numbers_where test) same ∙ sym (append-nil (numbers_where test k))
from_where test (suc m) k =
    let next : suc m + k ≡ m + suc k = omega arith in
    ap (numbers_where test) next ∙ from_where test m (suc k) ∙ by (test k)
  where
    by : (b : Bool) → (numbers_where test k ++ cond b (k ∷ []) []) ++ numbers_from test (suc k) m ≡ numbers_where test k ++ cond b (k ∷ numbers_from test (suc k) m) (numbers_from test (suc k) m)
    by true = append_assoc (numbers_where test k) (k ∷ []) (numbers_from test (suc k) m)
    by false = ap (λ ns. ns ++ numbers_from test (suc k) m) (append-nil (numbers_where test k))

-- all of them stand from the first number on
pub where_from : (test : ℕ → Bool) (m : ℕ) → numbers_where test m ≡ numbers_from test 0 m
where_from test m =
    let same : m ≡ m + 0 = omega arith in
    ap (numbers_where test) same ∙ from_where test m 0

-- what holds once the numbers before one were gone over, and stays where one is passed over that does not pass the test
abbrev pub Passes : (ℕ → Type 0) → (ℕ → Bool) → ℕ → Type 0
Passes P test bound = (j : ℕ) → j < bound → test j ≡ false → P j → P (suc j)

-- it holds at the next of them
pub to_next : (P : ℕ → Type 0) (test : ℕ → Bool) (m k n : ℕ) (ns : List ℕ) → Passes P test (m + k) → numbers_from test k m ≡ n ∷ ns → P k →
    (l : ℕ) × (P n × ((ns ≡ numbers_from test (suc n) l) × (l + suc n ≡ m + k)))
to_next P test zero k n ns passes e p = cc
to_next P test (suc m) k n ns passes e p = by (test k) refl e (λ gone. to_next P test m (suc k) n ns (λ j w h q. passes j (omega arith) h q) gone)
  where
    by : (b : Bool) → test k ≡ b → cond b (k ∷ numbers_from test (suc k) m) (numbers_from test (suc k) m) ≡ n ∷ ns →
        (numbers_from test (suc k) m ≡ n ∷ ns → P (suc k) → (l : ℕ) × (P n × ((ns ≡ numbers_from test (suc n) l) × (l + suc n ≡ m + suc k)))) →
        (l : ℕ) × (P n × ((ns ≡ numbers_from test (suc n) l) × (l + suc n ≡ suc m + k)))
    by true h is rest =
        let first : k ≡ n = cc in
        let left : numbers_from test (suc k) m ≡ ns = cc in
        (m, (subst P first p, (sym left ∙ ap (λ i. numbers_from test (suc i) m) first, omega (arith, first))))
    by false h is rest =
        let r = rest is (passes k (omega arith) h p) in
        (r.0, (r.1.0, (r.1.1.0, omega (arith, r.1.1.1))))

-- and behind the last
pub to_end : (P : ℕ → Type 0) (test : ℕ → Bool) (m k : ℕ) → Passes P test (m + k) → numbers_from test k m ≡ [] → P k → P (m + k)
to_end P test zero k passes e p = let same : k ≡ 0 + k = omega arith in subst P same p
to_end P test (suc m) k passes e p =
    let next : m + suc k ≡ suc m + k = omega arith in
    subst P next (by (test k) refl e (λ gone. to_end P test m (suc k) (λ j w h q. passes j (omega arith) h q) gone))
  where
    by : (b : Bool) → test k ≡ b → cond b (k ∷ numbers_from test (suc k) m) (numbers_from test (suc k) m) ≡ [] → (numbers_from test (suc k) m ≡ [] → P (suc k) → P (m + suc k)) → P (m + suc k)
    by true h is rest = cc
    by false h is rest = rest is (passes k (omega arith) h p)
