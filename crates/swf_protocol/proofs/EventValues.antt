-- What an event that was read is written as is a value.
use Rattle.std.proofs.Common.{◌≡◌, refl, subst, List, ℕ, [], ◌∷◌, Bool, true, false, cond, Option, Some, None, IfSome, Ok, codes, ◌==◌}
use Rattle.std.specs.Cmp.Lexicographic.{pointwise, slice_cmp}
use Rattle.std.specs.Ordering.{nat_cmp}
use Rattle.std.specs.Str.{all_scalars}
use Rattle.std.specs.declared.cmp.Ordering.{Ordering}
use Rattle.std.specs.declared.cmp.Ordering.TheVariants.{Less, Equal, Greater}
use Rattle.swf_value.specs.Members.{at, by_order, put}
use Rattle.swf_value.specs.Value.{Value, null, boolean, int, text, list, object, Members, no_members, member, Ascending, IsValue, AreMembers}
use Rattle.swf_value.proofs.Places.{ascending_put}
use Rattle.swf_cloudevents.specs.Event.{is_other, others, text_in, payload_of, event_in, unless_faulty, event_of, with_payload, event_value}
use Rattle.swf_cloudevents.specs.Faults.{Fault, unless_null, attribute, faults}
use Rattle.swf_cloudevents.specs.declared.event.Event.{Event}
use Rattle.swf_cloudevents.specs.declared.event.Payload.{Payload}
use Rattle.swf_cloudevents.specs.declared.event.Payload.TheVariants.{Absent, Value as Given, Base64}
use Rattle.swf_cloudevents.proofs.Others.{ascending_others}

-- ---- members of values

ordered : (o : Ordering) (ms ns os : Members) → AreMembers ms → AreMembers ns → AreMembers os → AreMembers (by_order o ms ns os)
ordered Less ms ns os a b c = a
ordered Equal ms ns os a b c = b
ordered Greater ms ns os a b c = c

all_put : (k : List ℕ) (v : Value) (ms : Members) → all_scalars k ≡ true → IsValue v → AreMembers ms → AreMembers (put k v ms)
all_put k v no_members s h a = (s, h, tt)
all_put k v (member l d ms) s h a = ordered (slice_cmp nat_cmp k l) _ _ _ (s, h, a) (s, h, a.2) (a.0, a.1, all_put k v ms s h a.2)

either : (b : Bool) (k : List ℕ) (v : Value) (ms : Members) → all_scalars k ≡ true → IsValue v → AreMembers ms → AreMembers (cond b (member k v ms) ms)
either true k v ms s h a = (s, h, a)
either false k v ms s h a = a

all_others : (ms : Members) → AreMembers ms → AreMembers (others ms)
all_others no_members a = tt
all_others (member k v ms) a = either (is_other k v) k v (others ms) a.0 a.1 (all_others ms a.2)

-- ---- what stands under a name

one_of : (b : Bool) (v : Value) (o : Option Value) → IsValue v → IfSome o IsValue → IfSome (cond b (Some v) o) IsValue
one_of true v o h i = h
one_of false v o h i = i

at_value : (k : List ℕ) (ms : Members) → AreMembers ms → IfSome (at k ms) IsValue
at_value k no_members a = tt
at_value k (member l v ms) a = one_of (pointwise ◌==◌ k l) v (at k ms) a.1 (at_value k ms a.2)

attribute_value : (o : Option Value) → IfSome o IsValue → IfSome (unless_null o) IsValue
attribute_value None h = tt
attribute_value (Some null) h = tt
attribute_value (Some (boolean b)) h = h
attribute_value (Some (int z)) h = h
attribute_value (Some (text t)) h = h
attribute_value (Some (list ds)) h = h
attribute_value (Some (object ms)) h = h

text_scalars : (o : Option Value) → IfSome o IsValue → all_scalars (text_in o) ≡ true
text_scalars None h = refl
text_scalars (Some null) h = refl
text_scalars (Some (boolean b)) h = refl
text_scalars (Some (int z)) h = refl
text_scalars (Some (text t)) h = h
text_scalars (Some (list ds)) h = refl
text_scalars (Some (object ms)) h = refl

named_scalars : (k : List ℕ) (ms : Members) → AreMembers ms → all_scalars (text_in (attribute k ms)) ≡ true
named_scalars k ms a = text_scalars (attribute k ms) (attribute_value (at k ms) (at_value k ms a))

-- ---- events

all_beside : (d b : Option Value) (ms : Members) → IfSome d IsValue → IfSome b IsValue → AreMembers ms → AreMembers (with_payload (payload_of d b) ms)
all_beside (Some v) b ms h i a = all_put (codes "data") v ms refl h a
all_beside None None ms h i a = a
all_beside None (Some null) ms h i a = a
all_beside None (Some (boolean b)) ms h i a = a
all_beside None (Some (int z)) ms h i a = a
all_beside None (Some (text t)) ms h i a = all_put (codes "data_base64") (text t) ms refl i a
all_beside None (Some (list ds)) ms h i a = a
all_beside None (Some (object ns)) ms h i a = a

ascending_beside : (p : Payload) (ms : Members) → Ascending ms → Ascending (with_payload p ms)
ascending_beside Absent ms a = a
ascending_beside (Given v) ms a = ascending_put (codes "data") v ms a
ascending_beside (Base64 t) ms a = ascending_put (codes "data_base64") (text t) ms a

read_value : (ms : Members) → Ascending ms × AreMembers ms → IsValue (event_value (event_in ms))
read_value ms h =
    let given = at_value (codes "data") ms h.1 in
    let base64 = attribute_value (at (codes "data_base64") ms) (at_value (codes "data_base64") ms h.1) in (
      ascending_put (codes "id") _ _ (ascending_put (codes "source") _ _ (ascending_put (codes "specversion") _ _ (ascending_put (codes "type") _ _
          (ascending_beside (event_in ms).payload (others ms) (ascending_others ms h.0))))),
      all_put (codes "id") _ _ refl (named_scalars (codes "id") ms h.1) (all_put (codes "source") _ _ refl (named_scalars (codes "source") ms h.1)
          (all_put (codes "specversion") _ _ refl refl (all_put (codes "type") _ _ refl (named_scalars (codes "type") ms h.1)
          (all_beside (at (codes "data") ms) (attribute (codes "data_base64") ms) (others ms) given base64 (all_others ms h.1))))),
    )

faultless : (e f : Event) (fs : List Fault) → unless_faulty e fs ≡ Ok f → e ≡ f
faultless e f [] h = cc
faultless e f (g ∷ fs) h = cc

pub event_is_value : (v : Value) (e : Event) → IsValue v → event_of v ≡ Ok e → IsValue (event_value e)
event_is_value (object ms) e h is = subst (λ x. IsValue (event_value x)) (faultless (event_in ms) e (faults ms) is) (read_value ms h)
event_is_value null e h is = cc
event_is_value (boolean b) e h is = cc
event_is_value (int z) e h is = cc
event_is_value (text t) e h is = cc
event_is_value (list ds) e h is = cc
