-- What holds of the members that have no place of their own, and of the value under a name.
use Rattle.std.proofs.Common.{◌≡◌, ◌∙◌, ◌≤◌, refl, sym, ap, subst, ℕ, max, List, [], ◌∷◌, ◌++◌, Bool, true, false, not, cond, Option, Some, None, inl, inr, arith, ◌⊎◌}
use Rattle.swf_text.specs.Same.{same}
use Rattle.swf_text.proofs.SameLemmas.{same_true}
use Rattle.swf_value.specs.Members.{at}
use Rattle.swf_value.specs.Value.{Value, null, boolean, int, text, list, object, Members, no_members, member, Ascending, LeadsMembers, depth, depth_members}
use Rattle.swf_cloudevents.specs.Event.{is_apart, is_other, others}
use Rattle.swf_cloudevents.specs.Faults.{Fault, is_known, attribute, unless_null, extension_faults, other_faults}
use Rattle.swf_cloudevents.proofs.Others.{leads_further}
use Rattle.swf_cloudevents.proofs.Puts.{not_itself}

-- a value that is not null
record IsThere (v : Value) : Type 0 where
  given : unless_null (Some v) ≡ Some v
  other : (k : List ℕ) → is_other k v ≡ not (is_apart k)

null_or_there : (v : Value) → (v ≡ null) ⊎ IsThere v
null_or_there null = inl refl
null_or_there (boolean b) = inr (record { given = refl; other = λ k. refl })
null_or_there (int z) = inr (record { given = refl; other = λ k. refl })
null_or_there (text t) = inr (record { given = refl; other = λ k. refl })
null_or_there (list ds) = inr (record { given = refl; other = λ k. refl })
null_or_there (object ms) = inr (record { given = refl; other = λ k. refl })

pub null_twice : (o : Option Value) → unless_null (unless_null o) ≡ unless_null o
null_twice None = refl
null_twice (Some null) = refl
null_twice (Some (boolean b)) = refl
null_twice (Some (int z)) = refl
null_twice (Some (text t)) = refl
null_twice (Some (list ds)) = refl
null_twice (Some (object ms)) = refl

-- no member that is kept has a place of its own
pub at_others_apart : (k : List ℕ) (ms : Members) → is_apart k ≡ true → at k (others ms) ≡ None
at_others_apart k no_members e = refl
at_others_apart k (member l v ms) e = by_cases (is_other l v) (same k l) refl refl (at_others_apart k ms e)
  where
    apart_other : (v : Value) (l : List ℕ) → k ≡ l → is_other l v ≡ true → ⊥
    apart_other v l s p = elim (null_or_there v) [
      | inl n ↦ cc (sym p ∙ ap (is_other l) n)
      | inr t ↦ cc (sym p ∙ t.other l ∙ ap (λ x. not (is_apart x)) (sym s) ∙ ap not e)
    ]

    by_cases : (b c : Bool) → is_other l v ≡ b → same k l ≡ c → at k (others ms) ≡ None → at k (cond b (member l v (others ms)) (others ms)) ≡ None
    by_cases true true p q r = absurd (apart_other v l (same_true k l q) p)
    by_cases true false p q r = rw q r
    by_cases false c p q r = r

-- a name that stands before all members is none of theirs
at_leading : (k : List ℕ) (ms : Members) → LeadsMembers k ms → Ascending ms → at k ms ≡ None
at_leading k no_members h a = refl
at_leading k (member l v ms) h a = by_same (same k l) refl (at_leading k ms (leads_further k l ms h a.0) a.1)
  where
    by_same : (b : Bool) → same k l ≡ b → at k ms ≡ None → cond b (Some v) (at k ms) ≡ None
    by_same true q r = absurd (not_itself k l (same_true k l q) h)
    by_same false q r = r

-- another attribute has its value among those that are kept
pub at_others : (k : List ℕ) (ms : Members) → is_apart k ≡ false → Ascending ms → at k (others ms) ≡ attribute k ms
at_others k no_members e a = refl
at_others k (member l v ms) e a = by_same (same k l) refl (at_others k ms e a.1)
  where
    absent : k ≡ l → at k (others ms) ≡ attribute k ms → at k (others ms) ≡ None
    absent s r = r ∙ ap unless_null (at_leading k ms (subst (λ x. LeadsMembers x ms) (sym s) a.0) a.1)

    found : (b : Bool) → same k l ≡ true → is_other l v ≡ b → at k (others ms) ≡ attribute k ms → at k (cond b (member l v (others ms)) (others ms)) ≡ unless_null (Some v)
    found b q p r = elim (null_or_there v) [
      | inl n ↦ let no : b ≡ false = sym p ∙ ap (is_other l) n in rw (no, n) (absent (same_true k l q) r)
      | inr t ↦ let yes : b ≡ true = sym p ∙ t.other l ∙ ap (λ x. not (is_apart x)) (sym (same_true k l q)) ∙ ap not e in rw (yes, q) (sym t.given)
    ]

    passed : (b : Bool) → same k l ≡ false → at k (others ms) ≡ attribute k ms → at k (cond b (member l v (others ms)) (others ms)) ≡ attribute k ms
    passed true q r = rw q r
    passed false q r = r

    by_same : (b : Bool) → same k l ≡ b → at k (others ms) ≡ attribute k ms → at k (others (member l v ms)) ≡ unless_null (cond b (Some v) (at k ms))
    by_same true q r = found (is_other l v) q refl r
    by_same false q r = passed (is_other l v) q r

pub others_others : (ms : Members) → others (others ms) ≡ others ms
others_others no_members = refl
others_others (member l v ms) = by_other (is_other l v) refl (others_others ms)
  where
    by_other : (b : Bool) → is_other l v ≡ b → others (others ms) ≡ others ms → others (cond b (member l v (others ms)) (others ms)) ≡ cond b (member l v (others ms)) (others ms)
    by_other true p r = rw p (ap (member l v) r)
    by_other false p r = r

pub none_ahead : (fs gs : List Fault) → fs ++ gs ≡ [] → (fs ≡ []) × (gs ≡ [])
none_ahead [] gs e = (refl, e)
none_ahead (f ∷ fs) gs e = cc

pub other_faults_others : (ms : Members) → other_faults ms ≡ [] → other_faults (others ms) ≡ []
other_faults_others no_members e = refl
other_faults_others (member l v ms) e =
    let parts = none_ahead (cond (is_known l) [] (extension_faults l (unless_null (Some v)))) (other_faults ms) e in
    by_other (is_other l v) parts.0 (other_faults_others ms parts.1)
  where
    by_other : (b : Bool) → cond (is_known l) [] (extension_faults l (unless_null (Some v))) ≡ [] → other_faults (others ms) ≡ [] → other_faults (cond b (member l v (others ms)) (others ms)) ≡ []
    by_other true p r = rw p r
    by_other false p r = r

pub depth_others : (ms : Members) → depth_members (others ms) ≤ depth_members ms
depth_others no_members = omega arith
depth_others (member l v ms) = by_other (is_other l v) (depth_others ms)
  where
    by_other : (b : Bool) → depth_members (others ms) ≤ depth_members ms → depth_members (cond b (member l v (others ms)) (others ms)) ≤ max (depth v) (depth_members ms)
    by_other true r = omega (arith, r)
    by_other false r = omega (arith, r)

pub depth_at : (k : List ℕ) (ms : Members) (v : Value) → at k ms ≡ Some v → depth v ≤ depth_members ms
depth_at k no_members v e = cc
depth_at k (member l d ms) v e = by_same (same k l) e (depth_at k ms v)
  where
    by_same : (b : Bool) → cond b (Some d) (at k ms) ≡ Some v → (at k ms ≡ Some v → depth v ≤ depth_members ms) → depth v ≤ max (depth d) (depth_members ms)
    by_same true q r = let is : d ≡ v = cc in omega (arith, ap depth is)
    by_same false q r = omega (arith, r q)
