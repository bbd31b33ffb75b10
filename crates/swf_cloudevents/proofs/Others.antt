-- The members that have no place of their own in an event.
use Rattle.std.proofs.Common.{◌≡◌, refl, ap, ℕ, List, [], ◌∷◌, ◌++◌, Bool, true, false, cond}
use Rattle.std.proofs.lemmas.Cmp.{nat_list_cmp_total}
use Rattle.swf_value.specs.Node.{members_of}
use Rattle.swf_value.specs.Value.{Value, Members, no_members, member, Ascending, LeadsMembers, IsBefore}
use Rattle.swf_value.specs.declared.value.Member.{Member}
use Rattle.swf_cloudevents.specs.Event.{is_other, others}

-- members, and then others behind them
abbrev pub joined : List Member → Members → Members
joined [] ns = ns
joined (m ∷ ms) ns = member m.name m.value (joined ms ns)

pub joined_push : (ms : List Member) (m : Member) (ns : Members) → joined (ms ++ m ∷ []) ns ≡ joined ms (member m.name m.value ns)
joined_push [] m ns = refl
joined_push (x ∷ ms) m ns = ap (member x.name x.value) (joined_push ms m ns)

pub joined_none : (ms : List Member) → joined ms no_members ≡ members_of ms
joined_none [] = refl
joined_none (x ∷ ms) = ap (member x.name x.value) (joined_none ms)

-- a name that stands before all members does so before those that are left
pub leads_further : (k l : List ℕ) (ms : Members) → IsBefore k l → LeadsMembers l ms → LeadsMembers k ms
leads_further k l no_members b h = tt
leads_further k l (member m v ms) b h = nat_list_cmp_total.trans k l m b h

leads_either : (b : Bool) (k l : List ℕ) (v : Value) (ns : Members) → IsBefore k l → LeadsMembers k ns → LeadsMembers k (cond b (member l v ns) ns)
leads_either true k l v ns h r = h
leads_either false k l v ns h r = r

leads_others : (k : List ℕ) (ms : Members) → LeadsMembers k ms → Ascending ms → LeadsMembers k (others ms)
leads_others k no_members h a = tt
leads_others k (member l v ms) h a = leads_either (is_other l v) k l v (others ms) h (leads_others k ms (leads_further k l ms h a.0) a.1)

ascending_either : (b : Bool) (l : List ℕ) (v : Value) (ns : Members) → LeadsMembers l ns → Ascending ns → Ascending (cond b (member l v ns) ns)
ascending_either true l v ns h r = (h, r)
ascending_either false l v ns h r = r

pub ascending_others : (ms : Members) → Ascending ms → Ascending (others ms)
ascending_others no_members a = tt
ascending_others (member l v ms) a = ascending_either (is_other l v) l v (others ms) (leads_others l ms a.0 a.1) (ascending_others ms a.1)
