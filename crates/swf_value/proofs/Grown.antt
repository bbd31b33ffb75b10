-- What one more item or member makes of a value.
use Rattle.std.proofs.Common.{◌≡◌, ◌∙◌, ℕ, ◌+◌, ◌-◌, ◌^◌, min, max, List, [], ◌∷◌, ◌++◌, Bool, true, false, Option, Some, None, if◌then◌else◌, ap, sym, refl, arith}
use Rattle.swf_value.specs.Value.{Value, null, boolean, int, text, list, object, Items, no_items, item, Members, no_members, member, IsLevel, depth, depth_items, depth_members}
use Rattle.swf_value.specs.Node.{items_of, IsKept}
use Rattle.swf_value.specs.Members.{at, by_order, member_at, put}
use Rattle.swf_value.specs.Size.{size, size_items, size_members}
use Rattle.swf_text.specs.Size.{bytes_in}
use Rattle.swf_text.specs.Same.{same}
use Rattle.swf_text.proofs.SameLemmas.{same_refl}
use Rattle.std.proofs.lemmas.Map.Lookups.{exact_bytes}
use Rattle.std.specs.Ordering.{nat_cmp}
use Rattle.std.specs.declared.cmp.Ordering.{Ordering}
use Rattle.std.specs.declared.cmp.Ordering.TheVariants.{Less, Equal, Greater}
use Rattle.std.specs.Cmp.Lexicographic.{slice_cmp}
use Rattle.swf_value.specs.Grow.{IsList, IsObject, and_item, with_item, with_put}
use Rattle.swf_value.proofs.Places.{ascending_put}

pub items_with_item : (ds : List Value) (v : Value) → items_of (ds ++ v ∷ []) ≡ and_item (items_of ds) v
items_with_item [] v = refl
items_with_item (d ∷ ds) v = ap (item d) (items_with_item ds v)

depth_with_item : (ds : Items) (v : Value) → depth_items (and_item ds v) ≡ max (depth_items ds) (depth v)
depth_with_item no_items v = omega arith
depth_with_item (item d ds) v = omega (arith, depth_with_item ds v)

size_with_item : (ds : Items) (v : Value) → size_items (and_item ds v) ≡ size_items ds + size v
size_with_item no_items v = omega arith
size_with_item (item d ds) v = omega (arith, size_with_item ds v)

pub kept_with_item : (k n m : ℕ) (v w : Value) → IsList v → IsKept k n v → m ≡ min (size w) (2 ^ 32 - 1) → IsKept (max k (min (min (depth w) (2 ^ 32 - 1) + 1) (2 ^ 32 - 1))) (min (n + m) (2 ^ 32 - 1)) (with_item v w)
kept_with_item k n m null w l h e = absurd l
kept_with_item k n m (boolean b) w l h e = absurd l
kept_with_item k n m (int z) w l h e = absurd l
kept_with_item k n m (text t) w l h e = absurd l
kept_with_item k n m (list ds) w l h e = record {
  level = tt;
  depth_is = omega (arith, h.depth_is, depth_with_item ds w);
  size_is = omega (arith, h.size_is, e, size_with_item ds w);
}
kept_with_item k n m (object ms) w l h e = absurd l

pub level_with_put : (v : Value) (k : List ℕ) (w : Value) → IsObject v → IsLevel v → IsLevel (with_put v k w)
level_with_put null k w o h = absurd o
level_with_put (boolean b) k w o h = absurd o
level_with_put (int z) k w o h = absurd o
level_with_put (text t) k w o h = absurd o
level_with_put (list ds) k w o h = absurd o
level_with_put (object ms) k w o h = ascending_put k w ms h

-- a name that no member has is that of none of them
not_equal : (k n : List ℕ) (b : Bool) (d : Value) (o : Option Value) → same k n ≡ b → (if b then Some d else o) ≡ None → (slice_cmp nat_cmp k n ≡ Equal → ⊥) × (o ≡ None)
not_equal k n true d o p e = cc
not_equal k n false d o p e = (λ q. cc (sym p ∙ ap (λ x. same x n) (exact_bytes k n q) ∙ same_refl n), e)

sums_by : (o : Ordering) (k n : List ℕ) (v d : Value) (ms : Members) → (o ≡ Equal → ⊥)
    → (depth_members (put k v ms) ≡ max (depth_members ms) (depth v)) × (size_members (put k v ms) ≡ size_members ms + (bytes_in k + size v))
    → (depth_members (by_order o (member k v (member n d ms)) (member k v ms) (member n d (put k v ms))) ≡ max (depth_members (member n d ms)) (depth v))
    × (size_members (by_order o (member k v (member n d ms)) (member k v ms) (member n d (put k v ms))) ≡ size_members (member n d ms) + (bytes_in k + size v))
sums_by Less k n v d ms u h = (omega arith, omega arith)
sums_by Equal k n v d ms u h = absurd (u refl)
sums_by Greater k n v d ms u h = (omega (arith, h.0), omega (arith, h.1))

-- the depth and the size of members with one more
with_new : (k : List ℕ) (v : Value) (ms : Members) → at k ms ≡ None
    → (depth_members (put k v ms) ≡ max (depth_members ms) (depth v)) × (size_members (put k v ms) ≡ size_members ms + (bytes_in k + size v))
with_new k v no_members e = (omega arith, omega arith)
with_new k v (member n d ms) e =
    let q = not_equal k n (same k n) d (at k ms) refl e in
    sums_by (slice_cmp nat_cmp k n) k n v d ms q.0 (with_new k v ms q.1)

pub kept_with_new : (deep large more : ℕ) (v : Value) (k : List ℕ) (w : Value) → IsObject v → IsKept deep large v → member_at k v ≡ None → more ≡ min (bytes_in k + size w) (2 ^ 32 - 1)
    → IsKept (max deep (min (min (depth w) (2 ^ 32 - 1) + 1) (2 ^ 32 - 1))) (min (large + more) (2 ^ 32 - 1)) (with_put v k w)
kept_with_new deep large more null k w o h e m = absurd o
kept_with_new deep large more (boolean b) k w o h e m = absurd o
kept_with_new deep large more (int z) k w o h e m = absurd o
kept_with_new deep large more (text t) k w o h e m = absurd o
kept_with_new deep large more (list ds) k w o h e m = absurd o
kept_with_new deep large more (object ms) k w o h e m =
    let q = with_new k w ms e in
    record { level = ascending_put k w ms h.level; depth_is = omega (arith, h.depth_is, q.0); size_is = omega (arith, h.size_is, m, q.1) }
