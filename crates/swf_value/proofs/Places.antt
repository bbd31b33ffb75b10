-- Names among ascending members.
use Rattle.std.proofs.Common.{◌≡◌, ◌∙◌, ap, sym, subst, refl, ℕ, zero, suc, ◌<◌, ◌≤◌, List, [], ◌∷◌, length, get_or, Bool, true, false, inl, inr, Some, None, Result, Ok, Err, slice_set, arith}
use Rattle.std.proofs.lemmas.Cmp.{nat_list_cmp_total}
use Rattle.std.proofs.lemmas.Map.Lookups.{exact_bytes}
use Rattle.std.proofs.lemmas.Bool.{cases_lt}
use Rattle.std.specs.List.{insert}
use Rattle.std.specs.List.Sorted.{IsNonDecreasingBy, IsPartitionPoint, IsBinarySearchResult, IsSearchInRange}
use Rattle.std.specs.Ordering.{nat_cmp, ordering_reverse, ordering_index}
use Rattle.std.specs.declared.cmp.Ordering.{Ordering}
use Rattle.std.specs.declared.cmp.Ordering.TheVariants.{Less, Equal, Greater}
use Rattle.std.specs.Cmp.Lexicographic.{slice_cmp}
use Rattle.swf_value.specs.Value.{Value, Members, no_members, Ascending, LeadsMembers, IsBefore, member}
use Rattle.swf_value.specs.Members.{at, by_order, put}
use Rattle.swf_value.specs.Node.{members_of}
use Rattle.swf_value.specs.Place.{IsPlaceOf}
use Rattle.swf_text.specs.Same.{same}
use Rattle.swf_value.specs.declared.value.Member.{Member}
use Rattle.swf_value.proofs.OrderLaws.{own_reverse}
use Rattle.swf_text.proofs.SameLemmas.{same_true, same_refl}

text_itself : (k : List ℕ) → slice_cmp nat_cmp k k ≡ Equal
text_itself k = own_reverse (slice_cmp nat_cmp k k) (nat_list_cmp_total.antisymm k k)

-- a name stands before those of all members behind it
leads_all : (ms : List Member) (k : List ℕ) (d : Value) (i : ℕ) (m : Member) → Ascending (member k d (members_of ms)) → i < length ms → slice_cmp nat_cmp k (get_or ms i m).name ≡ Less
leads_all [] k d i m h l = absurd (omega arith)
leads_all (x ∷ xs) k d zero m h l = h.0
leads_all (x ∷ xs) k d (suc i) m h l = nat_list_cmp_total.trans k x.name (get_or xs i m).name h.0 (leads_all xs x.name x.value i m h.1 (omega arith))

in_order : (ms : List Member) (i j : ℕ) (m : Member) → Ascending (members_of ms) → i < j → j < length ms → slice_cmp nat_cmp (get_or ms i m).name (get_or ms j m).name ≡ Less
in_order [] i j m h l k = absurd (omega arith)
in_order (x ∷ xs) i zero m h l k = absurd (omega arith)
in_order (x ∷ xs) zero (suc j) m h l k = leads_all xs x.name x.value j m h (omega arith)
in_order (x ∷ xs) (suc i) (suc j) m h l k = in_order xs i j m h.1 (omega arith) (omega arith)

-- what stands before another compares no higher with a third
index_up : (a b c : List ℕ) (o : Ordering) → slice_cmp nat_cmp b c ≡ o → slice_cmp nat_cmp a b ≡ Less → ordering_index (slice_cmp nat_cmp a c) ≤ ordering_index o
index_up a b c Less p h = let e : slice_cmp nat_cmp a c ≡ Less = nat_list_cmp_total.trans a b c h p in omega (arith, ap ordering_index e)
index_up a b c Equal p h = let e : slice_cmp nat_cmp a c ≡ Less = subst (λ x. slice_cmp nat_cmp a x ≡ Less) (exact_bytes b c p) h in omega (arith, ap ordering_index e)
index_up a b c Greater p h = at_most (slice_cmp nat_cmp a c)
  where
    at_most : (o : Ordering) → ordering_index o ≤ 2
    at_most Less = omega arith
    at_most Equal = omega arith
    at_most Greater = omega arith

pub rising : (ms : List Member) (k : List ℕ) → Ascending (members_of ms) → IsNonDecreasingBy (λ m. ordering_index (slice_cmp nat_cmp m.name k)) ms
rising ms k h i j m l n = elim (cases_lt i j) [
  | inl below ↦ index_up _ _ k _ refl (in_order ms i j m h below n)
  | inr above ↦ let e : i ≡ j = omega (arith, l, above) in omega (arith, ap (λ x. ordering_index (slice_cmp nat_cmp (get_or ms x m).name k)) e)
]

differ : (k l : List ℕ) (b : Bool) → same k l ≡ b → (k ≡ l → ⊥) → b ≡ false
differ k l true p n = absurd (n (same_true k l p))
differ k l false p n = refl

not_itself : (k l : List ℕ) → slice_cmp nat_cmp l k ≡ Less → k ≡ l → ⊥
not_itself k l p e = cc (sym (text_itself k) ∙ subst (λ x. slice_cmp nat_cmp x k ≡ Less) (sym e) p)

not_itself_back : (k l : List ℕ) → slice_cmp nat_cmp l k ≡ Greater → k ≡ l → ⊥
not_itself_back k l p e = cc (sym (text_itself k) ∙ subst (λ x. slice_cmp nat_cmp x k ≡ Greater) (sym e) p)

back : (k l : List ℕ) (o : Ordering) → slice_cmp nat_cmp l k ≡ o → slice_cmp nat_cmp k l ≡ ordering_reverse o
back k l o p = nat_list_cmp_total.antisymm k l ∙ ap ordering_reverse p

at_past : (k : List ℕ) (x : Member) (ms : List Member) → (k ≡ x.name → ⊥) → at k (members_of (x ∷ ms)) ≡ at k (members_of ms)
at_past k x ms n = let e : same k x.name ≡ false = differ k x.name (same k x.name) refl n in rw e refl

pub found_at : (ms : List Member) (k : List ℕ) (i : ℕ) (m : Member) → Ascending (members_of ms) → i < length ms → (get_or ms i m).name ≡ k → at k (members_of ms) ≡ Some (get_or ms i m).value
found_at [] k i m h l e = absurd (omega arith)
found_at (x ∷ xs) k zero m h l e = let t : same k x.name ≡ true = ap (λ y. same y x.name) (sym e) ∙ same_refl x.name in rw t refl
found_at (x ∷ xs) k (suc i) m h l e =
    let before : slice_cmp nat_cmp x.name k ≡ Less = subst (λ y. slice_cmp nat_cmp x.name y ≡ Less) e (leads_all xs x.name x.value i m h (omega arith)) in
    at_past k x xs (not_itself k x.name before) ∙ found_at xs k i m h.1 (omega arith) e

pub found_put : (ms : List Member) (k : List ℕ) (i : ℕ) (m : Member) (v : Value) → Ascending (members_of ms) → i < length ms → (get_or ms i m).name ≡ k → put k v (members_of ms) ≡ members_of (slice_set ms i (record { name = k; value = v }))
found_put [] k i m v h l e = absurd (omega arith)
found_put (x ∷ xs) k zero m v h l e =
    let t : slice_cmp nat_cmp k x.name ≡ Equal = ap (slice_cmp nat_cmp k) e ∙ text_itself k in rw t refl
found_put (x ∷ xs) k (suc i) m v h l e =
    let before : slice_cmp nat_cmp x.name k ≡ Less = subst (λ y. slice_cmp nat_cmp x.name y ≡ Less) e (leads_all xs x.name x.value i m h (omega arith)) in
    let t : slice_cmp nat_cmp k x.name ≡ Greater = back k x.name Less before in
    rw t (ap (member x.name x.value) (found_put xs k i m v h.1 (omega arith) e))

pub missing_at : (ms : List Member) (k : List ℕ) (i : ℕ) → i ≤ length ms → IsPartitionPoint (λ m. slice_cmp nat_cmp m.name k ≡ Less) (λ m. slice_cmp nat_cmp m.name k ≡ Greater) ms i → at k (members_of ms) ≡ None
missing_at [] k i l h = refl
missing_at (x ∷ xs) k zero l h = at_past k x xs (not_itself_back k x.name (h.1 0 x (omega arith) (omega arith))) ∙ missing_at xs k zero (omega arith) (λ j d p q. absurd (omega (arith, q)), λ j d p q. h.1 (suc j) d (omega arith) (omega (arith, q)))
missing_at (x ∷ xs) k (suc i) l h = at_past k x xs (not_itself k x.name (h.0 0 x (omega arith) (omega arith))) ∙ missing_at xs k i (omega arith) (λ j d p q. h.0 (suc j) d (omega arith) (omega (arith, q)), λ j d p q. h.1 (suc j) d (omega (arith, p)) (omega (arith, q)))

pub missing_put : (ms : List Member) (k : List ℕ) (i : ℕ) (v : Value) → i ≤ length ms → IsPartitionPoint (λ m. slice_cmp nat_cmp m.name k ≡ Less) (λ m. slice_cmp nat_cmp m.name k ≡ Greater) ms i → put k v (members_of ms) ≡ members_of (insert ms i (record { name = k; value = v }))
missing_put [] k zero v l h = refl
missing_put [] k (suc i) v l h = absurd (omega arith)
missing_put (x ∷ xs) k zero v l h = let t : slice_cmp nat_cmp k x.name ≡ Less = back k x.name Greater (h.1 0 x (omega arith) (omega arith)) in rw t refl
missing_put (x ∷ xs) k (suc i) v l h =
    let t : slice_cmp nat_cmp k x.name ≡ Greater = back k x.name Less (h.0 0 x (omega arith) (omega arith)) in
    rw t (ap (member x.name x.value) (missing_put xs k i v (omega arith) (λ j d p q. h.0 (suc j) d (omega arith) (omega (arith, q)), λ j d p q. h.1 (suc j) d (omega (arith, p)) (omega (arith, q)))))

-- what a search by halves answers
pub place_is : (ms : List Member) (k : List ℕ) (r : Result ℕ ℕ) → Ascending (members_of ms) → IsSearchInRange r (length ms) → IsBinarySearchResult (λ m. slice_cmp nat_cmp m.name k) ms r → IsPlaceOf k ms r
place_is ms k (Ok i) h l p =
    let named = λ (m : Member). exact_bytes (get_or ms i m).name k (p m) in
    (l, named, λ m. found_at ms k i m h l (named m), λ v. found_put ms k i (record { name = k; value = v }) v h l (named (record { name = k; value = v })))
place_is ms k (Err i) h l p = let q = p (rising ms k h) in (l, missing_at ms k i l q, λ v. missing_put ms k i v l q)

-- members with one more go on ascending
leads_put : (j k : List ℕ) (v : Value) (ms : Members) → IsBefore j k → LeadsMembers j ms → LeadsMembers j (put k v ms)
leads_put j k v no_members h l = h
leads_put j k v (member n d ms) h l = by_cases (slice_cmp nat_cmp k n)
  where
    by_cases : (o : Ordering) → LeadsMembers j (by_order o (member k v (member n d ms)) (member k v ms) (member n d (put k v ms)))
    by_cases Less = h
    by_cases Equal = h
    by_cases Greater = l

leads_same : (k n : List ℕ) (ms : Members) → k ≡ n → LeadsMembers n ms → LeadsMembers k ms
leads_same k n no_members e l = tt
leads_same k n (member m c ms) e l = subst (λ x. IsBefore x m) (sym e) l

ascending_by : (o : Ordering) (k n : List ℕ) (v d : Value) (ms : Members) → slice_cmp nat_cmp k n ≡ o → Ascending (member n d ms) → Ascending (put k v ms)
    → Ascending (by_order o (member k v (member n d ms)) (member k v ms) (member n d (put k v ms)))
ascending_by Less k n v d ms p h r = (p, h)
ascending_by Equal k n v d ms p h r = (leads_same k n ms (exact_bytes k n p) h.0, h.1)
ascending_by Greater k n v d ms p h r = (leads_put n k v ms (back n k Greater p) h.0, r)

pub ascending_put : (k : List ℕ) (v : Value) (ms : Members) → Ascending ms → Ascending (put k v ms)
ascending_put k v no_members h = (tt, tt)
ascending_put k v (member n d ms) h = ascending_by (slice_cmp nat_cmp k n) k n v d ms refl h (ascending_put k v ms h.1)
