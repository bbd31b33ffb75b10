-- A stable sort gives the sorted list.
use Rattle.std.proofs.Common.{◌≡◌, ◌∙◌, ℕ, suc, ◌<◌, ◌≤◌, List, [], ◌∷◌, length, get_or, refl, ap, sym, arith, Bool, true, false, cond, not, ◌&&◌}
use Rattle.std.proofs.lemmas.Bool.{false≢true}
use Rattle.std.proofs.lemmas.List.Sorted.{ranks_by, sorted_far}
use Rattle.std.specs.Cmp.{IsStrictWeakOrder}
use Rattle.std.specs.List.{filter}
use Rattle.std.specs.List.Sorted.{ties, IsSortedBy, IsStableBy}
use Rattle.std.specs.Ordering.{is_lt}
use Rattle.swf_value.specs.Order.{value_cmp}
use Rattle.swf_value.specs.Value.{Value}
use Rattle.swf_value.proofs.OrderLaws.{order_laws}
use Rattle.swf_evaluation.specs.Builtins.{inserted, sorted}

neither : (a b : Bool) → not a && not b ≡ true → (a ≡ false) × (b ≡ false)
neither false false e = (refl, refl)
neither true b e = absurd (false≢true e)
neither false true e = absurd (false≢true e)

tied_by : (a b : Bool) → a ≡ false → b ≡ false → not a && not b ≡ true
tied_by a b e f = rw (e, f) refl

exchange : {X : Type 0} (a b : Bool) (x y : X) (l : List X) → (a ≡ true → b ≡ true → ⊥) → cond a (y ∷ cond b (x ∷ l) l) (cond b (x ∷ l) l) ≡ cond b (x ∷ cond a (y ∷ l) l) (cond a (y ∷ l) l)
exchange true true x y l n = absurd (n refl refl)
exchange true false x y l n = refl
exchange false true x y l n = refl
exchange false false x y l n = refl

tail_same : {X : Type 0} (b : Bool) (x : X) (l m : List X) → cond b (x ∷ l) l ≡ cond b (x ∷ m) m → l ≡ m
tail_same true x l m e = cc
tail_same false x l m e = e

module _ {X : Type 0} (key : X → Value) where
  abbrev pub below : X → X → Bool
  below x y = is_lt (value_cmp (key x) (key y))

  pub weak : IsStrictWeakOrder below
  weak = ranks_by order_laws.0 key

  itself_by : (x : X) (b : Bool) → below x x ≡ b → below x x ≡ false
  itself_by x false e = e
  itself_by x true e = weak.one_way x x e

  itself : (x : X) → below x x ≡ false
  itself x = itself_by x (below x x) refl

  apart : (q x y : X) → below y x ≡ true → ties below q y ≡ true → ties below q x ≡ true → ⊥
  apart q x y e a b =
      let p = neither _ _ a in
      let r = neither _ _ b in
      false≢true (sym (weak.chain y q x p.1 r.0) ∙ e)

  insert_by : (q x y : X) (ys : List X) (b : Bool) → below y x ≡ b → filter (ties below q) (inserted key x ys) ≡ filter (ties below q) (x ∷ ys)
      → filter (ties below q) (cond b (y ∷ inserted key x ys) (x ∷ y ∷ ys)) ≡ filter (ties below q) (x ∷ y ∷ ys)
  insert_by q x y ys false e h = refl
  insert_by q x y ys true e h =
      ap (λ l. cond (ties below q y) (y ∷ l) l) h
      ∙ exchange (ties below q y) (ties below q x) x y (filter (ties below q) ys) (apart q x y e)

  inserted_filter : (q x : X) (ys : List X) → filter (ties below q) (inserted key x ys) ≡ filter (ties below q) (x ∷ ys)
  inserted_filter q x [] = refl
  inserted_filter q x (y ∷ ys) = insert_by q x y ys (below y x) refl (inserted_filter q x ys)

  sorted_filter : (q : X) (xs : List X) → filter (ties below q) (sorted key xs) ≡ filter (ties below q) xs
  sorted_filter q [] = refl
  sorted_filter q (x ∷ xs) = inserted_filter q x (sorted key xs) ∙ ap (λ l. cond (ties below q x) (x ∷ l) l) (sorted_filter q xs)

  -- none of the others is below
  abbrev Above : X → List X → Type 0
  Above x [] = Unit {0}
  Above x (y ∷ ys) = (below y x ≡ false) × Above x ys

  abbrev Up : List X → Type 0
  Up [] = Unit {0}
  Up (x ∷ xs) = Above x xs × Up xs

  above_of : (x : X) (xs : List X) → ((k : ℕ) → k < length xs → below (get_or xs k x) x ≡ false) → Above x xs
  above_of x [] h = tt
  above_of x (y ∷ ys) h = (h 0 (omega arith), above_of x ys (λ k p. h (suc k) (omega arith)))

  up_of : (xs : List X) → ((i j : ℕ) (d : X) → i ≤ j → j < length xs → below (get_or xs j d) (get_or xs i d) ≡ false) → Up xs
  up_of [] h = tt
  up_of (x ∷ xs) h = (above_of x xs (λ k p. h 0 (suc k) x (omega arith) (omega arith)), up_of xs (λ i j d p q. h (suc i) (suc j) d (omega arith) (omega arith)))

  above_far : (x y : X) (ys : List X) → below y x ≡ false → Above y ys → Above x ys
  above_far x y [] e h = tt
  above_far x y (w ∷ ys) e h = (weak.chain w y x h.0 e, above_far x y ys e h.1)

  above_by : (z x y : X) (ys : List X) (b : Bool) → below x z ≡ false → below y z ≡ false → Above z ys → Above z (inserted key x ys) → Above z (cond b (y ∷ inserted key x ys) (x ∷ y ∷ ys))
  above_by z x y ys false e f h i = (e, (f, h))
  above_by z x y ys true e f h i = (f, i)

  inserted_above : (z x : X) (ys : List X) → below x z ≡ false → Above z ys → Above z (inserted key x ys)
  inserted_above z x [] e h = (e, tt)
  inserted_above z x (y ∷ ys) e h = above_by z x y ys (below y x) e h.0 h.1 (inserted_above z x ys e h.1)

  up_by : (x y : X) (ys : List X) (b : Bool) → below y x ≡ b → Above y ys × Up ys → Up (inserted key x ys) → Up (cond b (y ∷ inserted key x ys) (x ∷ y ∷ ys))
  up_by x y ys false e h i = ((e, above_far x y ys e h.0), h)
  up_by x y ys true e h i = (inserted_above y x ys (weak.one_way y x e) h.0, i)

  inserted_up : (x : X) (ys : List X) → Up ys → Up (inserted key x ys)
  inserted_up x [] h = (tt, tt)
  inserted_up x (y ∷ ys) h = up_by x y ys (below y x) refl h (inserted_up x ys h.1)

  sorted_up : (xs : List X) → Up (sorted key xs)
  sorted_up [] = tt
  sorted_up (x ∷ xs) = inserted_up x (sorted key xs) (sorted_up xs)

  -- what a filter keeps first is not below the first
  kept_by : (t : X → Bool) (x w y : X) (ws rest : List X) (b : Bool) → cond b (w ∷ filter t ws) (filter t ws) ≡ y ∷ rest → below w x ≡ false → (filter t ws ≡ y ∷ rest → below y x ≡ false) → below y x ≡ false
  kept_by t x w y ws rest true e f g = let same : w ≡ y = cc in rw (sym same) f
  kept_by t x w y ws rest false e f g = g e

  kept : (t : X → Bool) (x y : X) (ws rest : List X) → filter t ws ≡ y ∷ rest → Above x ws → below y x ≡ false
  kept t x y [] rest e h = absurd (cc)
  kept t x y (w ∷ ws) rest e h = kept_by t x w y ws rest (t w) e h.0 (λ f. kept t x y ws rest f h.1)

  first_kept : (q : X) (xs : List X) → filter (ties below q) (q ∷ xs) ≡ q ∷ filter (ties below q) xs
  first_kept q xs = ap (λ b. cond b (q ∷ filter (ties below q) xs) (filter (ties below q) xs)) (tied_by _ _ (itself q) (itself q))

  first_tied : (q x : X) (xs : List X) → ties below q x ≡ true → filter (ties below q) (x ∷ xs) ≡ x ∷ filter (ties below q) xs
  first_tied q x xs e = ap (λ b. cond b (x ∷ filter (ties below q) xs) (filter (ties below q) xs)) e

  abbrev Alike : List X → List X → Type 0
  Alike xs ys = (q : X) → filter (ties below q) xs ≡ filter (ties below q) ys

  same_first : (x y : X) (xs ys : List X) → Above x xs → Above y ys → Alike (x ∷ xs) (y ∷ ys) → x ≡ y
  same_first x y xs ys h k a =
      let e : filter (ties below x) (y ∷ ys) ≡ x ∷ filter (ties below x) xs = sym (a x) ∙ first_kept x xs in
      let f : filter (ties below y) (x ∷ xs) ≡ y ∷ filter (ties below y) ys = a y ∙ first_kept y ys in
      let p : below x y ≡ false = kept (ties below x) y x (y ∷ ys) _ e (itself y, k) in
      let r : below y x ≡ false = kept (ties below y) x y (x ∷ xs) _ f (itself x, h) in
      let g : x ∷ filter (ties below x) xs ≡ y ∷ filter (ties below x) ys = sym e ∙ first_tied x y ys (tied_by _ _ p r) in
      cc

  alike_rest : (x y : X) (xs ys : List X) → x ≡ y → Alike (x ∷ xs) (y ∷ ys) → Alike xs ys
  alike_rest x y xs ys e a q = tail_same (ties below q x) x _ _ (a q ∙ ap (λ z. cond (ties below q z) (z ∷ filter (ties below q) ys) (filter (ties below q) ys)) (sym e))

  only : (xs ys : List X) → Up xs → Up ys → Alike xs ys → xs ≡ ys
  only [] [] h k a = refl
  only [] (y ∷ ys) h k a = let e : [] ≡ y ∷ filter (ties below y) ys = a y ∙ first_kept y ys in absurd (cc)
  only (x ∷ xs) [] h k a = let e : [] ≡ x ∷ filter (ties below x) xs = sym (a x) ∙ first_kept x xs in absurd (cc)
  only (x ∷ xs) (y ∷ ys) h k a =
      let e = same_first x y xs ys h.0 k.0 a in
      let f : xs ≡ ys = only xs ys h.1 k.1 (alike_rest x y xs ys e a) in cc

  pub sorted_is : (xs ys : List X) → IsSortedBy below ys → IsStableBy below xs ys → ys ≡ sorted key xs
  sorted_is xs ys up stable = only ys (sorted key xs) (up_of ys (sorted_far below weak ys up)) (sorted_up xs) (λ q. stable q ∙ sym (sorted_filter q xs))
