-- What a binary search among ascending values tells.
use Rattle.std.proofs.Common.{◌≡◌, ◌∙◌, ℕ, zero, suc, ◌+◌, ◌<◌, ◌≤◌, List, [], ◌∷◌, ◌++◌, length, get_or, drop, ap, sym, refl, arith, Bool, true, false, cond, not, ◌||◌, Result, Ok, Err, append_assoc, append-nil, is_ok, nat_le}
use Rattle.std.proofs.lemmas.Bool.{leb-true, leb-false}
use Rattle.std.proofs.lemmas.List.Sorted.{searchable_from_sorted}
use Rattle.std.specs.List.{list_any}
use Rattle.std.specs.List.Sorted.{IsSortedBy, IsBinarySearchResult, IsSearchInRange, IsPartitionPoint}
use Rattle.std.specs.Ordering.{is_eq, is_lt, ordering_reverse}
use Rattle.std.specs.declared.cmp.Ordering.{Ordering}
use Rattle.std.specs.declared.cmp.Ordering.TheVariants.{Less, Equal, Greater}
use Rattle.swf_value.specs.Order.{value_cmp}
use Rattle.swf_value.specs.Value.{Value, null}
use Rattle.swf_value.proofs.OrderLaws.{order_laws}
use Rattle.swf_evaluation.specs.Builtins.{inserted, sorted_values}
use Rattle.swf_evaluation.specs.Operations.{is_same, without}

any_at : (p : Value → Bool) (xs : List Value) (i : ℕ) (d : Value) → i < length xs → p (get_or xs i d) ≡ true → list_any p xs ≡ true
any_at p [] i d h e = absurd (omega arith)
any_at p (x ∷ xs) zero d h e = ap (λ b. b || list_any p xs) e
any_at p (x ∷ xs) (suc i) d h e = either (p x) (list_any p xs) (any_at p xs i d (omega arith) e)
  where
    either : (a b : Bool) → b ≡ true → a || b ≡ true
    either true b f = refl
    either false b f = f

none_any : (p : Value → Bool) (xs : List Value) → ((k : ℕ) → k < length xs → p (get_or xs k null) ≡ false) → list_any p xs ≡ false
none_any p [] h = refl
none_any p (x ∷ xs) h = ap (λ b. b || list_any p xs) (h 0 (omega arith)) ∙ none_any p xs (λ k l. h (suc k) (omega arith))

turned : (v w : Value) (r : Ordering) → value_cmp w v ≡ r → is_same v w ≡ is_eq (ordering_reverse r)
turned v w r e = ap is_eq (order_laws.0.antisymm v w ∙ ap ordering_reverse e)

none_by : (xs : List Value) (x : Value) (i k : ℕ) (b : Bool) → nat_le i k ≡ b → k < length xs → IsPartitionPoint (λ w. value_cmp w x ≡ Less) (λ w. value_cmp w x ≡ Greater) xs i → is_same x (get_or xs k null) ≡ false
none_by xs x i k true e l h = turned x (get_or xs k null) Greater (h.1 k null (leb-true i k e) l)
none_by xs x i k false e l h = turned x (get_or xs k null) Less (h.0 k null (omega arith) (leb-false i k e))

pub search_tells : (xs : List Value) (x : Value) (r : Result ℕ ℕ) → IsSortedBy (λ v w. is_lt (value_cmp v w)) xs → IsSearchInRange r (length xs) → IsBinarySearchResult (λ w. value_cmp w x) xs r → is_ok r ≡ list_any (is_same x) xs
search_tells xs x (Ok i) up bound h = sym (any_at (is_same x) xs i x bound (turned x (get_or xs i x) Equal (h x)))
search_tells xs x (Err i) up bound h =
    let parts = h (searchable_from_sorted order_laws.0 (λ v. v) xs x up) in
    sym (none_any (is_same x) xs (λ k l. none_by xs x i k (nat_le i k) refl l parts))

any_by : (p : Value → Bool) (x y : Value) (ys : List Value) (b : Bool) → list_any p (inserted (λ v. v) x ys) ≡ p x || list_any p ys → list_any p (cond b (y ∷ inserted (λ v. v) x ys) (x ∷ y ∷ ys)) ≡ p x || (p y || list_any p ys)
any_by p x y ys false e = refl
any_by p x y ys true e = ap (λ b. p y || b) e ∙ swapped (p x) (p y) (list_any p ys)
  where
    swapped : (a b c : Bool) → b || (a || c) ≡ a || (b || c)
    swapped true true c = refl
    swapped true false c = refl
    swapped false true c = refl
    swapped false false c = refl

any_inserted : (p : Value → Bool) (x : Value) (ys : List Value) → list_any p (inserted (λ v. v) x ys) ≡ p x || list_any p ys
any_inserted p x [] = refl
any_inserted p x (y ∷ ys) = any_by p x y ys (is_lt (value_cmp y x)) (any_inserted p x ys)

pub any_sorted : (p : Value → Bool) (xs : List Value) → list_any p (sorted_values xs) ≡ list_any p xs
any_sorted p [] = refl
any_sorted p (x ∷ xs) = any_inserted p x (sorted_values xs) ∙ ap (λ b. p x || b) (any_sorted p xs)

pub without_sorted : (xs ws : List Value) → without xs (sorted_values ws) ≡ without xs ws
without_sorted [] ws = refl
without_sorted (x ∷ xs) ws =
    ap (λ l. cond (not (list_any (is_same x) (sorted_values ws))) (x ∷ l) l) (without_sorted xs ws)
    ∙ ap (λ b. cond (not b) (x ∷ without xs ws) (without xs ws)) (any_sorted (is_same x) ws)
