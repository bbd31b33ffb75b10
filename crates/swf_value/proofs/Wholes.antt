-- A list or an object as a value, from what is found of its items or members, one after another.
use Rattle.std.proofs.Common.{◌≡◌, ◌∙◌, ap, sym, refl, ℕ, true, List, [], ◌∷◌, ◌++◌, Option, Some, None, option_map, map, chars, Ordering, nat_cmp, Bor}
use Rattle.std.proofs.lemmas.List.{map-append}
use Rattle.std.specs.List.Sorted.{IsStrictlySortedBy}
use Rattle.std.specs.Map.{keys_of}
use Rattle.std.specs.Str.{all_scalars, encode_utf8_all}
use Rattle.std.specs.Cmp.Lexicographic.{slice_cmp}
use Rattle.serde_json.specs.Data as json
use Rattle.swf_value.specs.Value.{Value, list, object, Items, no_items, item, Members, no_members, member, Ascending, IsValue, AreItems, AreMembers}
use Rattle.swf_value.specs.Node.{items_of, members_of}
use Rattle.swf_value.specs.Read.{whole, whole_items, whole_members}
use Rattle.swf_value.specs.Found.{AreFound, MembersFound}
use Rattle.swf_value.specs.declared.value.Member.{Member}
use Rattle.swf_value.specs.declared.whole.Found.{Found}
use Rattle.swf_text.proofs.Utf8Order.{order-encode_utf8_all}

-- ---- items

-- these values, and then the rest
abbrev pub items_then : List Value → Items → Items
items_then [] rest = rest
items_then (d ∷ ds) rest = item d (items_then ds rest)

items_then-no_items : (ds : List Value) → items_then ds no_items ≡ items_of ds
items_then-no_items [] = refl
items_then-no_items (d ∷ ds) = ap (item d) (items_then-no_items ds)

items_then_push : (ds : List Value) (d : Value) (rest : Items) → items_then (ds ++ d ∷ []) rest ≡ items_then ds (item d rest)
items_then_push [] d rest = refl
items_then_push (x ∷ ds) d rest = ap (item x) (items_then_push ds d rest)

-- the list of these values and of the data that are left
abbrev pub list_with : List Value → json.Items → Option Value
list_with ds rest = option_map (λ is. list (items_then ds is)) (whole_items rest)

list_with_at : (ds : List Value) (d : Value) (rest : Option Items) → option_map (λ r. list (items_then ds r)) (option_map (item d) rest) ≡ option_map (λ r. list (items_then (ds ++ d ∷ []) r)) rest
list_with_at ds d None = refl
list_with_at ds d (Some r) = ap (λ is. Some (list is)) (sym (items_then_push ds d r))

AreItems-push : (ds : List Value) (d : Value) → AreItems (items_of ds) → IsValue d → AreItems (items_of (ds ++ d ∷ []))
AreItems-push [] d h v = (v, tt)
AreItems-push (x ∷ ds) d h v = (h.0, AreItems-push ds d h.1 v)

-- of all items, `done` are values, and `left` are found of the rest
abbrev pub ListLeft : json.Items → List Value → List Found → Type 0
ListLeft all done left = (rest : json.Items) × AreFound rest left × (option_map list (whole_items all) ≡ list_with done rest) × AreItems (items_of done)

pub list_turn : (all : json.Items) (done : List Value) (f : Found) (left : List Found) (v : Value) → f.value ≡ Some v → ListLeft all done (f ∷ left) → ListLeft all (done ++ v ∷ []) left
list_turn all done f left v is (json.no_items, h, e, a) = absurd h
list_turn all done f left v is (json.item d ds, h, e, a) =
    let w : whole d ≡ Some v = sym h.0.value_is ∙ is in
    let valid : IsValue v = rw is at h.0.valid in
    (ds, h.1, e ∙ rw w (list_with_at done v (whole_items ds)), AreItems-push done v a valid)

pub list_stop : (all : json.Items) (done : List Value) (f : Found) (left : List Found) → f.value ≡ None → ListLeft all done (f ∷ left) → option_map list (whole_items all) ≡ None
list_stop all done f left is (json.no_items, h, e, a) = absurd h
list_stop all done f left is (json.item d ds, h, e, a) = let w : whole d ≡ None = sym h.0.value_is ∙ is in e ∙ rw w refl

pub list_end : (all : json.Items) (done : List Value) → ListLeft all done [] → (option_map list (whole_items all) ≡ Some (list (items_of done))) × IsValue (list (items_of done))
list_end all done (json.no_items, h, e, a) = (e ∙ ap (λ is. Some (list is)) (items_then-no_items done), a)
list_end all done (json.item d ds, h, e, a) = absurd h

-- ---- members

abbrev pub Entry : Type 0
Entry = Bor (List ℕ) × Found

abbrev pub members_then : List Member → Members → Members
members_then [] rest = rest
members_then (m ∷ ms) rest = member m.name m.value (members_then ms rest)

members_then-no_members : (ms : List Member) → members_then ms no_members ≡ members_of ms
members_then-no_members [] = refl
members_then-no_members (m ∷ ms) = ap (member m.name m.value) (members_then-no_members ms)

members_then_push : (ms : List Member) (m : Member) (rest : Members) → members_then (ms ++ m ∷ []) rest ≡ members_then ms (member m.name m.value rest)
members_then_push [] m rest = refl
members_then_push (x ∷ ms) m rest = ap (member x.name x.value) (members_then_push ms m rest)

-- the object of these members and of the data that are left
abbrev pub object_with : List Member → json.Members → Option Value
object_with ms rest = option_map (λ is. object (members_then ms is)) (whole_members rest)

object_with_at : (ms : List Member) (m : Member) (rest : Option Members)
    → option_map (λ r. object (members_then ms r)) (option_map (member m.name m.value) rest) ≡ option_map (λ r. object (members_then (ms ++ m ∷ []) r)) rest
object_with_at ms m None = refl
object_with_at ms m (Some r) = ap (λ is. Some (object is)) (sym (members_then_push ms m r))

AreMembers-push : (ms : List Member) (m : Member) → AreMembers (members_of ms) → all_scalars m.name ≡ true → IsValue m.value → AreMembers (members_of (ms ++ m ∷ []))
AreMembers-push [] m h named v = (named, v, tt)
AreMembers-push (x ∷ ms) m h named v = (h.0, h.1, AreMembers-push ms m h.2 named v)

-- of all members, `done` are values, and `left` are found of the rest
abbrev pub ObjectLeft : json.Members → List Member → List Entry → Type 0
ObjectLeft all done left = (rest : json.Members) × MembersFound rest left × (option_map object (whole_members all) ≡ object_with done rest) × AreMembers (members_of done)

pub object_turn : (all : json.Members) (done : List Member) (e : Entry) (left : List Entry) (m : Member) → m.name ≡ chars e.0.now → all_scalars m.name ≡ true → e.1.value ≡ Some m.value
    → ObjectLeft all done (e ∷ left) → ObjectLeft all (done ++ m ∷ []) left
object_turn all done e left m named text is (json.no_members, h, q, a) = absurd h
object_turn all done e left m named text is (json.member k d ms, h, q, a) =
    let w : whole d ≡ Some m.value = sym h.1.value_is ∙ is in
    let name : chars k ≡ m.name = ap (λ n. chars n) (sym h.0) ∙ sym named in
    let valid : IsValue m.value = rw is at h.1.valid in
    (ms, h.2, q ∙ rw (w, name) (object_with_at done m (whole_members ms)), AreMembers-push done m a text valid)

pub object_stop : (all : json.Members) (done : List Member) (e : Entry) (left : List Entry) → e.1.value ≡ None → ObjectLeft all done (e ∷ left) → option_map object (whole_members all) ≡ None
object_stop all done e left is (json.no_members, h, q, a) = absurd h
object_stop all done e left is (json.member k d ms, h, q, a) = let w : whole d ≡ None = sym h.1.value_is ∙ is in q ∙ rw w refl

pub object_end : (all : json.Members) (done : List Member) → ObjectLeft all done [] → (option_map object (whole_members all) ≡ Some (object (members_of done))) × AreMembers (members_of done)
object_end all done (json.no_members, h, q, a) = (q ∙ ap (λ ms. Some (object ms)) (members_then-no_members done), a)
object_end all done (json.member k d ms, h, q, a) = absurd h

-- ---- the order of a map is that of its names' characters

abbrev pub names_of : List Member → List (List ℕ)
names_of = map (λ m. encode_utf8_all m.name)

abbrev pub keys_as_bytes : List Entry → List (List ℕ)
keys_as_bytes = map (λ e. e.0.now)

pub names_push : (ms : List Member) (m : Member) (es : List Entry) (e : Entry) → names_of ms ≡ keys_as_bytes es → encode_utf8_all m.name ≡ e.0.now → names_of (ms ++ m ∷ []) ≡ keys_as_bytes (es ++ e ∷ [])
names_push ms m es e same named = map-append (λ n. encode_utf8_all n.name) ms (m ∷ []) ∙ ap (λ (xs : List (List ℕ)). xs ++ encode_utf8_all m.name ∷ []) same ∙ ap (λ (x : List ℕ). keys_as_bytes es ++ x ∷ []) named ∙ sym (map-append (λ x. x.0.now) es (e ∷ []))

abbrev pub key_cmp : Bor (List ℕ) → Bor (List ℕ) → Ordering
key_cmp x y = slice_cmp nat_cmp x.now y.now

pub ascending : (ms : List Member) (es : List Entry) → names_of ms ≡ keys_as_bytes es → IsStrictlySortedBy key_cmp (keys_of es) → Ascending (members_of ms)
unfolding IsStrictlySortedBy
ascending [] es same h = tt
ascending (m ∷ ms) [] same h = absurd (cc)
ascending (m ∷ []) (e ∷ es) same h = (tt, tt)
ascending (m ∷ n ∷ ms) (e ∷ []) same h = absurd (cc)
ascending (m ∷ n ∷ ms) (e ∷ f ∷ es) same h =
    let first : encode_utf8_all m.name ≡ e.0.now = cc in
    let second : encode_utf8_all n.name ≡ f.0.now = cc in
    let rest : names_of (n ∷ ms) ≡ keys_as_bytes (f ∷ es) = cc in
    (sym (order-encode_utf8_all m.name n.name) ∙ rw (first, second) h.0.0, ascending (n ∷ ms) (f ∷ es) rest h.1)
