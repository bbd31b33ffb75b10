-- Members with one more.
use Rattle.std.proofs.Common.{◌≡◌, ◌∙◌, ◌≤◌, refl, sym, ap, subst, ℕ, max, List, [], ◌++◌, Bool, true, false, not, cond, Some, Ordering, Less, Equal, Greater, arith}
use Rattle.std.proofs.lemmas.Cmp.{nat_list_cmp_total}
use Rattle.std.proofs.lemmas.Map.Lookups.{exact_bytes}
use Rattle.std.specs.Ordering.{nat_cmp}
use Rattle.std.specs.Cmp.Lexicographic.{slice_cmp}
use Rattle.swf_text.specs.Same.{same}
use Rattle.swf_text.proofs.SameLemmas.{same_true}
use Rattle.swf_value.proofs.OrderLaws.{own_reverse}
use Rattle.swf_value.specs.Members.{at, by_order, put}
use Rattle.swf_value.specs.Value.{Value, null, boolean, int, text, list, object, Members, no_members, member, IsBefore, depth, depth_members}
use Rattle.swf_cloudevents.specs.Event.{is_apart, is_other, others}
use Rattle.swf_cloudevents.specs.Faults.{is_known, unless_null, extension_faults, other_faults}

itself : (k : List ℕ) → slice_cmp nat_cmp k k ≡ Equal
itself k = own_reverse (slice_cmp nat_cmp k k) (nat_list_cmp_total.antisymm k k)

-- a name does not stand before itself
pub not_itself : (k l : List ℕ) → k ≡ l → IsBefore k l → ⊥
not_itself k l e p = cc (sym p ∙ ap (slice_cmp nat_cmp k) (sym e) ∙ itself k)

no_greater : (l n : List ℕ) → l ≡ n → slice_cmp nat_cmp l n ≡ Greater → ⊥
no_greater l n e p = cc (sym p ∙ ap (slice_cmp nat_cmp l) (sym e) ∙ itself l)

-- the value under a name where another stands before it
at_by : (o : Ordering) (k l n : List ℕ) (v d : Value) (ms : Members) → slice_cmp nat_cmp l n ≡ o → at k (put l v ms) ≡ cond (same k l) (Some v) (at k ms)
    → at k (by_order o (member l v (member n d ms)) (member l v ms) (member n d (put l v ms))) ≡ cond (same k l) (Some v) (cond (same k n) (Some d) (at k ms))
at_by Less k l n v d ms p r = refl
at_by Equal k l n v d ms p r = same_name (same k l) refl
  where
    same_name : (b : Bool) → same k l ≡ b → cond b (Some v) (at k ms) ≡ cond b (Some v) (cond (same k n) (Some d) (at k ms))
    same_name true e = refl
    same_name false e = let f : same k n ≡ false = ap (same k) (sym (exact_bytes l n p)) ∙ e in rw f refl
at_by Greater k l n v d ms p r = other_name (same k l) (same k n) refl refl
  where
    other_name : (b c : Bool) → same k l ≡ b → same k n ≡ c → cond c (Some d) (at k (put l v ms)) ≡ cond b (Some v) (cond c (Some d) (at k ms))
    other_name true true e f = absurd (no_greater l n (sym (same_true k l e) ∙ same_true k n f) p)
    other_name true false e f = r ∙ rw e refl
    other_name false true e f = refl
    other_name false false e f = r ∙ rw e refl

pub at_put : (k l : List ℕ) (v : Value) (ms : Members) → at k (put l v ms) ≡ cond (same k l) (Some v) (at k ms)
at_put k l v no_members = refl
at_put k l v (member n d ms) = at_by (slice_cmp nat_cmp l n) k l n v d ms refl (at_put k l v ms)

pub at_here : (k l : List ℕ) (v : Value) (ms : Members) → same k l ≡ true → at k (put l v ms) ≡ Some v
at_here k l v ms e = at_put k l v ms ∙ rw e refl

pub at_past : (k l : List ℕ) (v : Value) (ms : Members) → same k l ≡ false → at k (put l v ms) ≡ at k ms
at_past k l v ms e = at_put k l v ms ∙ rw e refl

-- a member that is passed over where it is put is passed over there
abbrev Passes : {A : Type 0} → (Members → A) → List ℕ → Type 0
Passes f k = (v : Value) (ms : Members) → f (member k v ms) ≡ f ms

put_passed : {A : Type 0} (f : Members → A) → ((n : List ℕ) (d : Value) (ms ns : Members) → f ms ≡ f ns → f (member n d ms) ≡ f (member n d ns)) → (k : List ℕ) → Passes f k → (v : Value) (ms : Members) → f (put k v ms) ≡ f ms
put_passed f keeps k passes v no_members = passes v no_members
put_passed {A} f keeps k passes v (member n d ms) = by_cases (slice_cmp nat_cmp k n) refl (put_passed f keeps k passes v ms)
  where
    by_cases : (o : Ordering) → slice_cmp nat_cmp k n ≡ o → f (put k v ms) ≡ f ms → f (by_order o (member k v (member n d ms)) (member k v ms) (member n d (put k v ms))) ≡ f (member n d ms)
    by_cases Less p r = passes v (member n d ms)
    by_cases Equal p r = passes v ms ∙ sym (subst (λ x. f (member x d ms) ≡ f ms) (exact_bytes k n p) (passes d ms))
    by_cases Greater p r = keeps n d (put k v ms) ms r

apart_is_no_other : (k : List ℕ) (v : Value) → is_apart k ≡ true → is_other k v ≡ false
apart_is_no_other k null e = refl
apart_is_no_other k (boolean b) e = ap not e
apart_is_no_other k (int z) e = ap not e
apart_is_no_other k (text t) e = ap not e
apart_is_no_other k (list ds) e = ap not e
apart_is_no_other k (object ms) e = ap not e

pub others_put : (k : List ℕ) (v : Value) (ms : Members) → is_apart k ≡ true → others (put k v ms) ≡ others ms
others_put k v ms e = put_passed others (λ n d ms ns r. ap (λ os. cond (is_other n d) (member n d os) os) r) k (λ v ms. let no : is_other k v ≡ false = apart_is_no_other k v e in rw no refl) v ms

pub other_faults_put : (k : List ℕ) (v : Value) (ms : Members) → is_known k ≡ true → other_faults (put k v ms) ≡ other_faults ms
other_faults_put k v ms e = put_passed other_faults (λ n d ms ns r. ap (λ fs. cond (is_known n) [] (extension_faults n (unless_null (Some d))) ++ fs) r) k (λ v ms. rw e refl) v ms

pub depth_put : (k : List ℕ) (v : Value) (ms : Members) → depth_members (put k v ms) ≤ max (depth v) (depth_members ms)
depth_put k v no_members = omega arith
depth_put k v (member n d ms) = by_cases (slice_cmp nat_cmp k n) (depth_put k v ms)
  where
    by_cases : (o : Ordering) → depth_members (put k v ms) ≤ max (depth v) (depth_members ms) → depth_members (by_order o (member k v (member n d ms)) (member k v ms) (member n d (put k v ms))) ≤ max (depth v) (max (depth d) (depth_members ms))
    by_cases Less r = omega arith
    by_cases Equal r = omega arith
    by_cases Greater r = omega (arith, r)
