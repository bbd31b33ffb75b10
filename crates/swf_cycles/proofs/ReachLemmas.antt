-- What one comes to call, and what is closed under calls.
use Rattle.std.proofs.Common.{◌≡◌, ℕ, zero, suc, ◌<◌, ◌≤◌, List, Bool, true, false, ◌||◌, ◌&&◌, refl, arith}
use borrow.Author.Count.{below_more}
use Rattle.swf_cycles.specs.Cycles.{calls, reaches}

pub first_true : (a b : Bool) → a ≡ true → (a || b) ≡ true
first_true true b p = refl
first_true false b p = cc

pub second_true : (a b : Bool) → b ≡ true → (a || b) ≡ true
second_true true b p = refl
second_true false b p = p

both_true : (a b : Bool) → (a && b) ≡ true → (a ≡ true) × (b ≡ true)
both_true true b p = (refl, p)
both_true false b p = cc

all_true : (a b : Bool) → a ≡ true → b ≡ true → (a && b) ≡ true
all_true true b p q = q
all_true false b p q = cc

pub either : (P : Type 0) (a b : Bool) → (a || b) ≡ true → (a ≡ true → P) → (b ≡ true → P) → P
either P true b p f g = f refl
either P false b p f g = g p

abbrev pub Reaches : List (List ℕ) → ℕ → ℕ → ℕ → Type 0
Reaches g k i j = reaches g k i j ≡ true

-- a call is a way by no function
pub called_reaches : (g : List (List ℕ)) (k i j : ℕ) → calls g i j ≡ true → Reaches g k i j
called_reaches g zero i j p = p
called_reaches g (suc k) i j p = first_true _ _ (called_reaches g k i j p)

to_last : (g : List (List ℕ)) (k i : ℕ) → Reaches g (suc k) i k → Reaches g k i k
to_last g k i p = either (Reaches g k i k) (reaches g k i k) (reaches g k i k && reaches g k k k) p (λ q. q) (λ q. (both_true (reaches g k i k) (reaches g k k k) q).0)

from_last : (g : List (List ℕ)) (k j : ℕ) → Reaches g (suc k) k j → Reaches g k k j
from_last g k j p = either (Reaches g k k j) (reaches g k k j) (reaches g k k k && reaches g k k j) p (λ q. q) (λ q. (both_true (reaches g k k k) (reaches g k k j) q).1)

by_last : (g : List (List ℕ)) (k i j : ℕ) → Reaches g k i k → Reaches g k k j → Reaches g (suc k) i j
by_last g k i j p q = second_true (reaches g k i j) (reaches g k i k && reaches g k k j) (all_true (reaches g k i k) (reaches g k k j) p q)

-- two ways make one
pub joined : (g : List (List ℕ)) (k c : ℕ) → c < k → (i j : ℕ) → Reaches g k i c → Reaches g k c j → Reaches g k i j
joined g zero c h i j p q = absurd (omega arith)
joined g (suc k) c h i j p q =
    below_more (λ b. (u v : ℕ) → Reaches g (suc k) u b → Reaches g (suc k) b v → Reaches g (suc k) u v) k
    (λ b l u v p q.
    either (Reaches g (suc k) u v) (reaches g k u b) (reaches g k u k && reaches g k k b) p
    (λ p. either (Reaches g (suc k) u v) (reaches g k b v) (reaches g k b k && reaches g k k v) q
    (λ q. first_true (reaches g k u v) (reaches g k u k && reaches g k k v) (joined g k b l u v p q))
    (λ q. let r = both_true (reaches g k b k) (reaches g k k v) q in by_last g k u v (joined g k b l u k p r.0) r.1))
    (λ p. let s = both_true (reaches g k u k) (reaches g k k b) p in
    either (Reaches g (suc k) u v) (reaches g k b v) (reaches g k b k && reaches g k k v) q
    (λ q. by_last g k u v s.0 (joined g k b l k v s.1 q))
    (λ q. let r = both_true (reaches g k b k) (reaches g k k v) q in by_last g k u v s.0 r.1)))
    (λ u v p q. by_last g k u v (to_last g k u p) (from_last g k v q))
    c (omega arith) i j p q

-- what has all that the first and each of its own calls reaches all
pub closed_has : (g : List (List ℕ)) (S T : ℕ → Type 0) (n : ℕ) → ((x : ℕ) → T x → S x) → ((x y : ℕ) → S x → calls g x y ≡ true → y < n → T y)
    → (k : ℕ) → k ≤ n → (x y : ℕ) → S x → Reaches g k x y → y < n → T y
closed_has g S T n inner closed zero h x y s p b = closed x y s p b
closed_has g S T n inner closed (suc k) h x y s p b =
    either (T y) (reaches g k x y) (reaches g k x k && reaches g k k y) p
    (λ p. closed_has g S T n inner closed k (omega arith) x y s p b)
    (λ p. let r = both_true (reaches g k x k) (reaches g k k y) p in
    closed_has g S T n inner closed k (omega arith) k y (inner k (closed_has g S T n inner closed k (omega arith) x k s r.0 (omega arith))) r.1 b)
