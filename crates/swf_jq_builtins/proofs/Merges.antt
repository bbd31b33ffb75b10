-- Members put among others.
use Rattle.std.proofs.Common.{◌≡◌, ◌∙◌, ℕ, List, [], ◌∷◌, ◌++◌, refl, ap, sym, subst}
use Rattle.std.proofs.lemmas.Cmp.{nat_list_cmp_total}
use Rattle.std.proofs.lemmas.Map.Lookups.{exact_bytes}
use Rattle.std.specs.Ordering.{nat_cmp, ordering_reverse}
use Rattle.std.specs.Cmp.Lexicographic.{slice_cmp}
use Rattle.std.specs.declared.cmp.Ordering.{Ordering}
use Rattle.std.specs.declared.cmp.Ordering.TheVariants.{Less, Equal, Greater}
use Rattle.std.specs.BTreeMap.{insert_entry}
use Rattle.std.specs.List.Sorted.{IsStrictlySortedBy}
use Rattle.std.specs.Map.{keys_of}
use Rattle.swf_value.specs.Value.{Value, Members, no_members, member, IsBefore, LeadsMembers, Ascending}
use Rattle.swf_jq_builtins.specs.MapMembers.{entries_members}
use Rattle.swf_value.specs.Members.{put}
use Rattle.swf_evaluation.specs.Operations.{merged}
use Rattle.swf_value.specs.Node.{members_of}
use Rattle.swf_value.specs.declared.value.Member.{Member}

abbrev Entry : Type 0
Entry = List ℕ × Value

-- some members, and then others
abbrev pub joined : Members → Members → Members
joined no_members ns = ns
joined (member k d ms) ns = member k d (joined ms ns)

joined_no_members : (ms : Members) → joined ms no_members ≡ ms
joined_no_members no_members = refl
joined_no_members (member k d ms) = ap (member k d) (joined_no_members ms)

-- a name that stands before the members, and before one further on
far : (l k : List ℕ) (d : Value) (ms ns : Members) → LeadsMembers l (joined ms (member k d ns)) → Ascending (joined ms (member k d ns)) → IsBefore l k
far l k d no_members ns h up = h
far l k d (member j e ms) ns h up = nat_list_cmp_total.trans l j k h (far j k d ms ns up.0 up.1)

greater : (l k : List ℕ) → IsBefore l k → slice_cmp nat_cmp k l ≡ Greater
greater l k h = nat_list_cmp_total.antisymm k l ∙ ap ordering_reverse h

-- a member whose name comes after the others is put last
put_last : (k : List ℕ) (d : Value) (ms ns : Members) → Ascending (joined ms (member k d ns)) → put k d ms ≡ joined ms (member k d no_members)
put_last k d no_members ns up = refl
put_last k d (member l e ms) ns up = rw (greater l k (far l k d ms ns up.0 up.1)) (ap (member l e) (put_last k d ms ns up.1))

joined_one : (ms : Members) (k : List ℕ) (d : Value) (ns : Members) → joined (joined ms (member k d no_members)) ns ≡ joined ms (member k d ns)
joined_one no_members k d ns = refl
joined_one (member l e ms) k d ns = ap (member l e) (joined_one ms k d ns)

-- ascending members, put in order one by one
merged_onto : (ms ns : Members) → Ascending (joined ms ns) → merged ms ns ≡ joined ms ns
merged_onto ms no_members up = sym (joined_no_members ms)
merged_onto ms (member k d ns) up =
    ap (λ os. merged os ns) (put_last k d ms ns up)
    ∙ merged_onto (joined ms (member k d no_members)) ns (subst Ascending (sym (joined_one ms k d ns)) up)
    ∙ joined_one ms k d ns

pub merged_with_none : (ms : Members) → Ascending ms → merged no_members ms ≡ ms
merged_with_none ms up = merged_onto no_members ms up

-- an insert in a map puts a member
inserted_by : (k : List ℕ) (v : Value) (e : Entry) (es : List Entry) (r : Ordering) → slice_cmp nat_cmp k e.0 ≡ r → entries_members (insert_entry (slice_cmp nat_cmp) es k v) ≡ put k v (entries_members es) → entries_members (insert_entry (slice_cmp nat_cmp) (e ∷ es) k v) ≡ put k v (entries_members (e ∷ es))
inserted_by k v e es Less h i = rw h refl
inserted_by k v e es Equal h i = rw h (ap (λ n. member n v (entries_members es)) (sym (exact_bytes k e.0 h)))
inserted_by k v e es Greater h i = rw h (ap (member e.0 e.1) i)

pub insert_puts : (k : List ℕ) (v : Value) (es : List Entry) → entries_members (insert_entry (slice_cmp nat_cmp) es k v) ≡ put k v (entries_members es)
insert_puts k v [] = refl
insert_puts k v (e ∷ es) = inserted_by k v e es (slice_cmp nat_cmp k e.0) refl (insert_puts k v es)

-- the members that some entries are
abbrev pub as_members : List Entry → List Member
as_members [] = []
as_members (e ∷ es) = record { name = e.0; value = e.1 } ∷ as_members es

pub members_of-as_members : (es : List Entry) → members_of (as_members es) ≡ entries_members es
members_of-as_members [] = refl
members_of-as_members (e ∷ es) = ap (member e.0 e.1) (members_of-as_members es)

pub as_members-push : (es : List Entry) (e : Entry) → as_members (es ++ e ∷ []) ≡ as_members es ++ record { name = e.0; value = e.1 } ∷ []
as_members-push [] e = refl
as_members-push (d ∷ es) e = ap (λ fs. record { name = d.0; value = d.1 } ∷ fs) (as_members-push es e)

-- the entries of a map ascend
pub ascending : (es : List Entry) → IsStrictlySortedBy (slice_cmp nat_cmp) (keys_of es) → Ascending (entries_members es)
unfolding IsStrictlySortedBy
ascending [] h = tt
ascending (e ∷ []) h = (tt, tt)
ascending (e ∷ f ∷ es) h = (h.0.0, ascending (f ∷ es) h.1)
