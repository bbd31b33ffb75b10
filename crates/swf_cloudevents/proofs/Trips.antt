-- An event is read again from what it is written as.
use Rattle.std.proofs.Common.{◌≡◌, ◌∙◌, ◌≤◌, refl, ap, subst, ℕ, List, [], ◌∷◌, ◌++◌, false, cond, codes, Option, Some, None, Result, Ok, arith}
use Rattle.swf_text.specs.Same.{same}
use Rattle.swf_value.specs.Members.{at, put}
use Rattle.swf_value.specs.Value.{Value, null, boolean, int, text, list, object, Members, Ascending, depth, depth_members}
use Rattle.swf_cloudevents.specs.Event.{is_apart, others, text_in, payload_of, event_in, unless_faulty, event_of, with_payload, members_of, event_value}
use Rattle.swf_cloudevents.specs.EventLaws.{ReadsBack, NestsNoDeeper, TellsApart, EventLaws}
use Rattle.swf_cloudevents.specs.Faults.{Fault, attribute, unless_null, required, optional, other_version, time_faults, base64_faults, other_faults, faults}
use Rattle.swf_cloudevents.specs.declared.event.Event.{Event}
use Rattle.swf_cloudevents.specs.declared.event.Payload.{Payload}
use Rattle.swf_cloudevents.specs.declared.event.Payload.TheVariants.{Absent, Value as Given, Base64}
use Rattle.swf_cloudevents.proofs.Kept.{null_twice, none_ahead, at_others, at_others_apart, others_others, other_faults_others, depth_others, depth_at}
use Rattle.swf_cloudevents.proofs.Puts.{at_put, at_here, at_past, others_put, other_faults_put, depth_put}

-- the value under a name of what an event is written as
at_members : (k : List ℕ) (e : Event) → at k (members_of e) ≡ cond (same k (codes "id")) (Some (text e.id)) (cond (same k (codes "source")) (Some (text e.source))
    (cond (same k (codes "specversion")) (Some (text (codes "1.0"))) (cond (same k (codes "type")) (Some (text e.kind)) (at k (with_payload e.payload e.attributes)))))
at_members k e = rw (at_put, at_put, at_put, at_put) refl

-- the same with fewer of the four names
abbrev with_type : Event → Members
with_type e = put (codes "type") (text e.kind) (with_payload e.payload e.attributes)

abbrev with_version : Event → Members
with_version e = put (codes "specversion") (text (codes "1.0")) (with_type e)

abbrev with_source : Event → Members
with_source e = put (codes "source") (text e.source) (with_version e)

at_beside : (k : List ℕ) (p : Payload) (ms : Members) → same k (codes "data") ≡ false → same k (codes "data_base64") ≡ false → at k (with_payload p ms) ≡ at k ms
at_beside k Absent ms e f = refl
at_beside k (Given v) ms e f = at_past k (codes "data") v ms e
at_beside k (Base64 t) ms e f = at_past k (codes "data_base64") (text t) ms f

-- a name that is none of those with a place of their own
record IsPlain (k : List ℕ) : Type 0 where
  no_id : same k (codes "id") ≡ false
  no_source : same k (codes "source") ≡ false
  no_version : same k (codes "specversion") ≡ false
  no_type : same k (codes "type") ≡ false
  no_data : same k (codes "data") ≡ false
  no_base64 : same k (codes "data_base64") ≡ false
  not_apart : is_apart k ≡ false

attribute_kept : (k : List ℕ) (ms : Members) → Ascending ms → IsPlain k → attribute k (members_of (event_in ms)) ≡ attribute k ms
attribute_kept k ms a n =
    let e = event_in ms in
    let past : at k (members_of e) ≡ at k (with_payload e.payload (others ms)) = at_members k e ∙ rw (n.no_id, n.no_source, n.no_version, n.no_type) refl in
    ap unless_null (past ∙ at_beside k e.payload (others ms) n.no_data n.no_base64 ∙ at_others k ms n.not_apart a) ∙ null_twice (at k ms)

required_text : (k : List ℕ) (o : Option Value) → required k o ≡ [] → required k (Some (text (text_in o))) ≡ []
required_text k None e = cc
required_text k (Some null) e = cc
required_text k (Some (boolean b)) e = cc
required_text k (Some (int z)) e = cc
required_text k (Some (text t)) e = e
required_text k (Some (list ds)) e = cc
required_text k (Some (object ms)) e = cc

-- what is said of the payload of members that have no fault, where it is put among others
record KeepsPayload (d b : Option Value) (os : Members) : Type 0 where
  faultless : base64_faults (at (codes "data") (with_payload (payload_of d b) os)) (attribute (codes "data_base64") (with_payload (payload_of d b) os)) ≡ []
  same_payload : payload_of (at (codes "data") (with_payload (payload_of d b) os)) (attribute (codes "data_base64") (with_payload (payload_of d b) os)) ≡ payload_of d b

keeps_payload : (d b : Option Value) (os : Members) → base64_faults d b ≡ [] → at (codes "data") os ≡ None → at (codes "data_base64") os ≡ None → KeepsPayload d b os
keeps_payload (Some v) b os e n m =
    let here = at_here (codes "data") (codes "data") v os refl in
    let past = at_past (codes "data_base64") (codes "data") v os refl ∙ m in
    record { faultless = rw (here, past) refl; same_payload = rw here refl }
keeps_payload None None os e n m = record { faultless = rw (n, m) refl; same_payload = rw (n, m) refl }
keeps_payload None (Some (text t)) os e n m =
    let here = at_here (codes "data_base64") (codes "data_base64") (text t) os refl in
    let past = at_past (codes "data") (codes "data_base64") (text t) os refl ∙ n in
    record { faultless = rw (here, past) e; same_payload = rw (here, past) refl }
keeps_payload None (Some null) os e n m = cc
keeps_payload None (Some (boolean b)) os e n m = cc
keeps_payload None (Some (int z)) os e n m = cc
keeps_payload None (Some (list ds)) os e n m = cc
keeps_payload None (Some (object ms)) os e n m = cc

-- what holds of each part of members that have no fault
record IsFaultless (ms : Members) : Type 0 where
  id : required (codes "id") (attribute (codes "id") ms) ≡ []
  source : required (codes "source") (attribute (codes "source") ms) ≡ []
  kind : required (codes "type") (attribute (codes "type") ms) ≡ []
  content : optional (codes "datacontenttype") (attribute (codes "datacontenttype") ms) ≡ []
  schema : optional (codes "dataschema") (attribute (codes "dataschema") ms) ≡ []
  subject : optional (codes "subject") (attribute (codes "subject") ms) ≡ []
  time : time_faults (attribute (codes "time") ms) ≡ []
  payload : base64_faults (at (codes "data") ms) (attribute (codes "data_base64") ms) ≡ []
  rest : other_faults ms ≡ []

faultless : (ms : Members) → faults ms ≡ [] → IsFaultless ms
faultless ms e =
    let a = none_ahead (required (codes "id") (attribute (codes "id") ms)) _ e in
    let b = none_ahead (required (codes "source") (attribute (codes "source") ms)) _ a.1 in
    let c = none_ahead (required (codes "specversion") (attribute (codes "specversion") ms)) _ b.1 in
    let d = none_ahead (other_version (attribute (codes "specversion") ms)) _ c.1 in
    let f = none_ahead (required (codes "type") (attribute (codes "type") ms)) _ d.1 in
    let g = none_ahead (optional (codes "datacontenttype") (attribute (codes "datacontenttype") ms)) _ f.1 in
    let h = none_ahead (optional (codes "dataschema") (attribute (codes "dataschema") ms)) _ g.1 in
    let i = none_ahead (optional (codes "subject") (attribute (codes "subject") ms)) _ h.1 in
    let j = none_ahead (time_faults (attribute (codes "time") ms)) _ i.1 in
    let k = none_ahead (base64_faults (at (codes "data") ms) (attribute (codes "data_base64") ms)) (other_faults ms) j.1 in
    record { id = a.0; source = b.0; kind = f.0; content = g.0; schema = h.0; subject = i.0; time = j.0; payload = k.0; rest = k.1 }

both_none : (fs gs : List Fault) → fs ≡ [] → gs ≡ [] → fs ++ gs ≡ []
both_none fs gs e f = rw e f

others_beside : (p : Payload) (ms : Members) → others (with_payload p ms) ≡ others ms
others_beside Absent ms = refl
others_beside (Given v) ms = others_put (codes "data") v ms refl
others_beside (Base64 t) ms = others_put (codes "data_base64") (text t) ms refl

others_written : (e : Event) → others (members_of e) ≡ others e.attributes
others_written e =
    others_put (codes "id") (text e.id) (with_source e) refl ∙ others_put (codes "source") (text e.source) (with_version e) refl
    ∙ others_put (codes "specversion") (text (codes "1.0")) (with_type e) refl ∙ others_put (codes "type") (text e.kind) (with_payload e.payload e.attributes) refl
    ∙ others_beside e.payload e.attributes

faults_beside : (p : Payload) (ms : Members) → other_faults (with_payload p ms) ≡ other_faults ms
faults_beside Absent ms = refl
faults_beside (Given v) ms = other_faults_put (codes "data") v ms refl
faults_beside (Base64 t) ms = other_faults_put (codes "data_base64") (text t) ms refl

faults_written : (e : Event) → other_faults (members_of e) ≡ other_faults e.attributes
faults_written e =
    other_faults_put (codes "id") (text e.id) (with_source e) refl ∙ other_faults_put (codes "source") (text e.source) (with_version e) refl
    ∙ other_faults_put (codes "specversion") (text (codes "1.0")) (with_type e) refl ∙ other_faults_put (codes "type") (text e.kind) (with_payload e.payload e.attributes) refl
    ∙ faults_beside e.payload e.attributes

plain : (k : List ℕ) → same k (codes "id") ≡ false → same k (codes "source") ≡ false → same k (codes "specversion") ≡ false → same k (codes "type") ≡ false
    → same k (codes "data") ≡ false → same k (codes "data_base64") ≡ false → is_apart k ≡ false → IsPlain k
plain k a b c d e f g = record { no_id = a; no_source = b; no_version = c; no_type = d; no_data = e; no_base64 = f; not_apart = g }

-- the payload, where what the event is written as has no other members of the two names
payload_kept : (ms : Members) → base64_faults (at (codes "data") ms) (attribute (codes "data_base64") ms) ≡ []
    → (base64_faults (at (codes "data") (members_of (event_in ms))) (attribute (codes "data_base64") (members_of (event_in ms))) ≡ [])
    × (payload_of (at (codes "data") (members_of (event_in ms))) (attribute (codes "data_base64") (members_of (event_in ms))) ≡ (event_in ms).payload)
payload_kept ms h =
    let e = event_in ms in
    let kept = keeps_payload (at (codes "data") ms) (attribute (codes "data_base64") ms) (others ms) h (at_others_apart (codes "data") ms refl) (at_others_apart (codes "data_base64") ms refl) in
    let d = at_members (codes "data") e in
    let b = at_members (codes "data_base64") e in
    (rw (d, b) kept.faultless, rw (d, b) kept.same_payload)

written_faultless : (ms : Members) → Ascending ms → faults ms ≡ [] → faults (members_of (event_in ms)) ≡ []
written_faultless ms a h =
    let e = event_in ms in
    let f = faultless ms h in
    let id : attribute (codes "id") (members_of e) ≡ Some (text e.id) = ap unless_null (at_members (codes "id") e) in
    let source : attribute (codes "source") (members_of e) ≡ Some (text e.source) = ap unless_null (at_members (codes "source") e) in
    let version : attribute (codes "specversion") (members_of e) ≡ Some (text (codes "1.0")) = ap unless_null (at_members (codes "specversion") e) in
    let kind : attribute (codes "type") (members_of e) ≡ Some (text e.kind) = ap unless_null (at_members (codes "type") e) in
    both_none _ _ (ap (required (codes "id")) id ∙ required_text (codes "id") (attribute (codes "id") ms) f.id)
    (both_none _ _ (ap (required (codes "source")) source ∙ required_text (codes "source") (attribute (codes "source") ms) f.source)
    (both_none _ _ (ap (required (codes "specversion")) version)
    (both_none _ _ (ap other_version version)
    (both_none _ _ (ap (required (codes "type")) kind ∙ required_text (codes "type") (attribute (codes "type") ms) f.kind)
    (both_none _ _ (ap (optional (codes "datacontenttype")) (attribute_kept (codes "datacontenttype") ms a (plain _ refl refl refl refl refl refl refl)) ∙ f.content)
    (both_none _ _ (ap (optional (codes "dataschema")) (attribute_kept (codes "dataschema") ms a (plain _ refl refl refl refl refl refl refl)) ∙ f.schema)
    (both_none _ _ (ap (optional (codes "subject")) (attribute_kept (codes "subject") ms a (plain _ refl refl refl refl refl refl refl)) ∙ f.subject)
    (both_none _ _ (ap time_faults (attribute_kept (codes "time") ms a (plain _ refl refl refl refl refl refl refl)) ∙ f.time)
    (both_none _ _ (payload_kept ms f.payload).0
    (faults_written e ∙ other_faults_others ms f.rest))))))))))

event_kept : (ms : Members) → base64_faults (at (codes "data") ms) (attribute (codes "data_base64") ms) ≡ [] → event_in (members_of (event_in ms)) ≡ event_in ms
event_kept ms h =
    let e = event_in ms in
    let id : text_in (attribute (codes "id") (members_of e)) ≡ e.id = ap (λ o. text_in (unless_null o)) (at_members (codes "id") e) in
    let source : text_in (attribute (codes "source") (members_of e)) ≡ e.source = ap (λ o. text_in (unless_null o)) (at_members (codes "source") e) in
    let kind : text_in (attribute (codes "type") (members_of e)) ≡ e.kind = ap (λ o. text_in (unless_null o)) (at_members (codes "type") e) in
    let attributes : others (members_of e) ≡ e.attributes = others_written e ∙ others_others ms in
    let payload = (payload_kept ms h).1 in
    λ i. record { id = id i; source = source i; kind = kind i; attributes = attributes i; payload = payload i }

-- the members that an event was read from
unless_ok : (e f : Event) (fs : List Fault) → unless_faulty e fs ≡ Ok f → (fs ≡ []) × (e ≡ f)
unless_ok e f [] h = (refl, cc)
unless_ok e f (g ∷ fs) h = cc

pub reads_back : ReadsBack
reads_back (object ms) e a h =
    let p = unless_ok (event_in ms) e (faults ms) h in
    let f = faultless ms p.0 in
    let again : event_of (event_value (event_in ms)) ≡ Ok (event_in ms) =
    ap (unless_faulty (event_in (members_of (event_in ms)))) (written_faultless ms a p.0) ∙ ap Ok (event_kept ms f.payload) in
    subst (λ x. event_of (event_value x) ≡ Ok x) p.1 again
reads_back null e a h = cc
reads_back (boolean b) e a h = cc
reads_back (int z) e a h = cc
reads_back (text t) e a h = cc
reads_back (list ds) e a h = cc

depth_beside : (p : Payload) (ms : Members) (n : ℕ) → ((v : Value) → p ≡ Given v → depth v ≤ n) → depth_members ms ≤ n → depth_members (with_payload p ms) ≤ n
depth_beside Absent ms n f h = h
depth_beside (Given v) ms n f h = omega (arith, f v refl, h, depth_put (codes "data") v ms)
depth_beside (Base64 t) ms n f h = omega (arith, h, depth_put (codes "data_base64") (text t) ms)

given_depth : (d b : Option Value) (n : ℕ) → ((v : Value) → d ≡ Some v → depth v ≤ n) → (v : Value) → payload_of d b ≡ Given v → depth v ≤ n
given_depth (Some w) b n f v e = let is : w ≡ v = cc in f v (ap Some is)
given_depth None None n f v e = cc
given_depth None (Some null) n f v e = cc
given_depth None (Some (boolean b)) n f v e = cc
given_depth None (Some (int z)) n f v e = cc
given_depth None (Some (text t)) n f v e = cc
given_depth None (Some (list ds)) n f v e = cc
given_depth None (Some (object ms)) n f v e = cc

depth_written : (e : Event) (n : ℕ) → depth_members (with_payload e.payload e.attributes) ≤ n → depth_members (members_of e) ≤ n
depth_written e n h =
    let a = depth_put (codes "type") (text e.kind) (with_payload e.payload e.attributes) in
    let b = depth_put (codes "specversion") (text (codes "1.0")) (with_type e) in
    let c = depth_put (codes "source") (text e.source) (with_version e) in
    let d = depth_put (codes "id") (text e.id) (with_source e) in
    omega (arith, a, b, c, d, h)

pub nests_no_deeper : NestsNoDeeper
nests_no_deeper (object ms) e h =
    let p = unless_ok (event_in ms) e (faults ms) h in
    let d = at (codes "data") ms in
    let b = attribute (codes "data_base64") ms in
    let n = depth_members ms in
    let within : depth_members (members_of (event_in ms)) ≤ n =
    depth_written (event_in ms) n (depth_beside (payload_of d b) (others ms) n (given_depth d b n (depth_at (codes "data") ms)) (depth_others ms)) in
    subst (λ x. depth (event_value x) ≤ depth (object ms)) p.1 (omega (arith, within))
nests_no_deeper null e h = cc
nests_no_deeper (boolean b) e h = cc
nests_no_deeper (int z) e h = cc
nests_no_deeper (text t) e h = cc
nests_no_deeper (list ds) e h = cc

-- equal values are read as one event
same_event : (e f : Event) (r s : Result Event Fault) → r ≡ Ok e → s ≡ Ok f → r ≡ s → e ≡ f
same_event e f r s p q h = cc

pub tells_apart : TellsApart
tells_apart v w e f a b h k is = same_event e f (event_of (event_value e)) (event_of (event_value f)) (reads_back v e a h) (reads_back w f b k) (ap event_of is)

pub event_laws : EventLaws
event_laws = (reads_back, nests_no_deeper, tells_apart)
