-- Headers and the members that they are read from.
use Rattle.std.proofs.Common.{◌≡◌, ◌∙◌, refl, ap, sym, subst, List, [], ◌∷◌, map, Option, Some, None, option_map}
use Rattle.swf_value.specs.Value.{Value, null, boolean, int, text, list, object, Members, no_members, member, Ascending}
use Rattle.swf_value.specs.Node.{members_of}
use Rattle.swf_value.specs.declared.value.Member.{Member}
use Rattle.swf_calls.specs.declared.headers.Header.{Header}
use Rattle.swf_calls.specs.Headers.{header_members, headers_in, headers_of}

-- a header as a member
abbrev pub field_member : Header → Member
field_member h = record { name = h.name; value = text h.value }

pub members_of_fields : (hs : List Header) → members_of (map field_member hs) ≡ header_members hs
members_of_fields [] = refl
members_of_fields (h ∷ hs) = ap (member h.name (text h.value)) (members_of_fields hs)

-- headers are read again from their members
pub headers_again : (hs : List Header) → headers_in (header_members hs) ≡ Some hs
headers_again [] = refl
headers_again (h ∷ hs) = ap (option_map (λ rest. h ∷ rest)) (headers_again hs)

-- what is made of something that is there
mapped : {A B : Type 0} (f : A → B) (o : Option A) (y : B) → option_map f o ≡ Some y → (x : A) × (o ≡ Some x) × (f x ≡ y)
mapped f None y e = cc
mapped f (Some x) y e = (x, refl, cc)

-- the members that headers are read from are those of the headers
pub members_again : (ms : Members) (hs : List Header) → headers_in ms ≡ Some hs → header_members hs ≡ ms
members_again no_members hs e = let is : [] ≡ hs = cc in ap header_members (sym is)
members_again (member k (text t) ms) hs e =
    let p = mapped (λ rest. (record { name = k; value = t }) ∷ rest) (headers_in ms) hs e in
    ap header_members (sym p.2) ∙ ap (member k (text t)) (members_again ms p.0 p.1)
members_again (member k null ms) hs e = cc
members_again (member k (boolean b) ms) hs e = cc
members_again (member k (int z) ms) hs e = cc
members_again (member k (list ds) ms) hs e = cc
members_again (member k (object ns) ms) hs e = cc

pub object_again : (v : Value) (hs : List Header) → headers_of v ≡ Some hs → object (header_members hs) ≡ v
object_again null hs e = cc
object_again (boolean b) hs e = cc
object_again (int z) hs e = cc
object_again (text t) hs e = cc
object_again (list ds) hs e = cc
object_again (object ms) hs e = ap object (members_again ms hs e)

-- headers that are read from ascending members ascend
pub fields_ascend : (ms : Members) (hs : List Header) → Ascending ms → Some hs ≡ headers_in ms → Ascending (header_members hs)
fields_ascend ms hs h e = subst Ascending (sym (members_again ms hs (sym e))) h
