-- Bytes are read as labels exactly where they are their bytes.
use Rattle.std.proofs.Common.{◌≡◌, ◌∙◌, ap, ap₂, sym, subst, refl, ℕ, zero, suc, ◌+◌, ◌<◌, ◌≤◌, List, [], ◌∷◌, ◌++◌, length, get_or, Option, Some, None, option_map, Result, Ok, Err, true, false, Bool, cond, eqb, ◌⊎◌, inl, inr, arith, w32, w64, nat_le, append_assoc, append-nil}
use Rattle.std.proofs.lemmas.Bool.{eqb-true, le-leb, leb-true}
use Rattle.std.proofs.lemmas.List.{length-append}
use Rattle.std.proofs.Math.Dec.{eqb-suc-zero}
use Rattle.std.specs.List.{AllByRecursion, flat_map}
use Rattle.swf_meaning.specs.declared.label.Label.{Label}
use Rattle.swf_meaning.specs.declared.label.Label.TheVariants.{Load, Start, Event, Reply, Moment, Step}
use Rattle.swf_value.specs.Value.{Value, depth}
use Rattle.swf_calls.specs.declared.reply.CallReply.{CallReply}
use Rattle.swf_calls.specs.Reply.{reply_of, reply_value, IsInRange}
use Rattle.swf_calls.proofs.ReplyLemmas.{value_again, reply_again}
use Rattle.swf_cloudevents.specs.declared.event.Event.{Event as TheEvent}
use Rattle.swf_cloudevents.specs.Event.{event_of, event_value}
use Rattle.swf_document.specs.declared.document.DocKey.{DocKey}
use Rattle.swf_record.specs.Encodes.{four_bytes, eight_bytes, text_bytes, value_bytes, strand_bytes, label_bytes, labels_bytes, label_place, FitsText, FitsValue, FitsStrand, last_moment, Fits, Encodes}
use Rattle.swf_record.specs.Decodes.{Reading, ◌>>=◌, number_in, text_in, value_in, strand_in, load_in, start_in, told_event, event_in, reply_in, moment_in, step_in, label_in, many_in, ended, record_in, placed, decoded}
use Rattle.swf_record.proofs.Bytes.{AreBytes, AreBytes-from_each, if_read, read_is, Found, length-four_bytes, four_ahead, four_behind, eight_ahead, eight_behind}
use Rattle.swf_record.proofs.Events.{told_again, told_is}
use Rattle.swf_record.proofs.Fields.{then_read, meant_is, many_ahead, many_behind, text_ahead, text_behind, value_ahead, value_behind, strand_ahead, strand_behind}

-- ---- what is put together from fields

-- the bytes of the fields of a start
abbrev start_bytes : List ℕ → DocKey → Value → List ℕ
start_bytes id key input = text_bytes id ++ (text_bytes key.namespace ++ (text_bytes key.name ++ (text_bytes key.version ++ value_bytes input)))

load_ahead : (v : Value) (rest : List ℕ) → FitsValue 64 v → load_in (value_bytes v ++ rest) ≡ Ok (Load v, rest)
unfolding load_in
load_ahead v rest h = rw (value_ahead 64 v rest h) refl

start_parts : (id : List ℕ) (key : DocKey) (input : Value) (rest : List ℕ)
    → start_bytes id key input ++ rest ≡ text_bytes id ++ (text_bytes key.namespace ++ (text_bytes key.name ++ (text_bytes key.version ++ (value_bytes input ++ rest))))
start_parts id key input rest = simp append_assoc

start_ahead : (id : List ℕ) (key : DocKey) (input : Value) (rest : List ℕ) → FitsText id → FitsText key.namespace → FitsText key.name → FitsText key.version → FitsValue 64 input
    → start_in (start_bytes id key input ++ rest) ≡ Ok (Start id key input, rest)
unfolding start_in
start_ahead id key input rest h namespace name version value =
    rw (start_parts id key input rest, text_ahead id _ h, text_ahead key.namespace _ namespace, text_ahead key.name _ name, text_ahead key.version _ version, value_ahead 64 input rest value) refl

event_ahead : (e : TheEvent) (rest : List ℕ) → event_of (event_value e) ≡ Ok e → FitsValue 64 (event_value e) → event_in (value_bytes (event_value e) ++ rest) ≡ Ok (Event e, rest)
unfolding event_in
event_ahead e rest again h = rw (value_ahead 64 (event_value e) rest h, told_again e again) refl

reply_ahead : (a : List ℕ) (r : CallReply) (rest : List ℕ) → IsInRange r → FitsText a → FitsValue 65 (reply_value r)
    → reply_in ((text_bytes a ++ value_bytes (reply_value r)) ++ rest) ≡ Ok (Reply a r, rest)
unfolding reply_in
reply_ahead a r rest range activity h =
    rw (append_assoc (text_bytes a) (value_bytes (reply_value r)) rest, text_ahead a (value_bytes (reply_value r) ++ rest) activity, value_ahead 65 (reply_value r) rest h, reply_again r range) refl

step_ahead : (id s rest : List ℕ) → FitsText id → FitsStrand s → step_in ((text_bytes id ++ strand_bytes s) ++ rest) ≡ Ok (Step id s, rest)
unfolding step_in
step_ahead id s rest h strand = rw (append_assoc (text_bytes id) (strand_bytes s) rest, text_ahead id (strand_bytes s ++ rest) h, strand_ahead s rest strand) refl

moment_ahead : (m : ℕ) (rest : List ℕ) → m ≤ last_moment → moment_in (eight_bytes m ++ rest) ≡ Ok (Moment m, rest)
unfolding moment_in
moment_ahead m rest h = rw (eight_ahead m rest (omega arith), le-leb m last_moment h) refl

label_ahead : (l : Label) (rest : List ℕ) → Fits l → label_in (label_bytes l ++ rest) ≡ Ok (l, rest)
unfolding label_in
label_ahead (Load v) rest h = load_ahead v rest h.fields
label_ahead (Start id key input) rest h = start_ahead id key input rest h.fields.0 h.fields.1 h.fields.2 h.fields.3 h.fields.4
label_ahead (Event e) rest h = event_ahead e rest h.nests.1 h.fields
label_ahead (Reply a r) rest h = reply_ahead a r rest h.nests.1 h.fields.0 h.fields.1
label_ahead (Moment m) rest h = moment_ahead m rest h.fields
label_ahead (Step id s) rest h = step_ahead id s rest h.fields.0 h.fields.1

-- ---- and back

load_behind : (field rest : List ℕ) (l : Label) → AreBytes field → load_in field ≡ Ok (l, rest) → Found label_bytes Fits (1 ∷ field) l rest
unfolding load_in
load_behind field rest l h e =
    let v = then_read (value_in 64 field) _ (l, rest) e in
    let found = value_behind 64 field v.0.1 v.0.0 h v.1 in
    let same = read_is (Load v.0.0) l v.0.1 rest v.2 in
    record {
      is = ap (λ bs. 1 ∷ bs) found.is ∙ ap₂ (λ l more. label_bytes l ++ more) same.0 same.1;
      fits = subst Fits same.0 (record { nests = found.fits.0; fields = found.fits.1 });
      left = subst AreBytes same.1 found.left;
    }

-- what is put together again, one field behind another
four_parts : (a b c d x0 x1 x2 x3 x4 rest : List ℕ) (e : List ℕ) → x0 ≡ a ++ x1 → x1 ≡ b ++ x2 → x2 ≡ c ++ x3 → x3 ≡ d ++ x4 → x4 ≡ e ++ rest → x0 ≡ a ++ (b ++ (c ++ (d ++ (e ++ rest))))
four_parts a b c d x0 x1 x2 x3 x4 rest e p q r s t = rw (p, q, r, s, t) refl

started : (field id at_namespace : List ℕ) (key : DocKey) (at_name at_version at_input : List ℕ) (input : Value) (behind rest : List ℕ) (l : Label) → AreBytes field
    → text_in field ≡ Ok (id, at_namespace) → text_in at_namespace ≡ Ok (key.namespace, at_name) → text_in at_name ≡ Ok (key.name, at_version) → text_in at_version ≡ Ok (key.version, at_input) → value_in 64 at_input ≡ Ok (input, behind)
    → ◌≡◌ {A = Reading Label} (Ok (Start id key input, behind)) (Ok (l, rest)) → Found label_bytes Fits (2 ∷ field) l rest
started field id at_namespace key at_name at_version at_input input behind rest l h id_read namespace_read name_read version_read input_read whole =
    let a = text_behind field at_namespace id h id_read in
    let b = text_behind at_namespace at_name key.namespace a.left namespace_read in
    let c = text_behind at_name at_version key.name b.left name_read in
    let d = text_behind at_version at_input key.version c.left version_read in
    let v = value_behind 64 at_input behind input d.left input_read in
    let same = read_is (Start id key input) l behind rest whole in
    let parts : field ≡ start_bytes id key input ++ behind =
    four_parts (text_bytes id) (text_bytes key.namespace) (text_bytes key.name) (text_bytes key.version) field at_namespace at_name at_version at_input behind (value_bytes input) a.is b.is c.is d.is v.is
    ∙ sym (start_parts id key input behind) in
    record {
      is = ap (λ bs. 2 ∷ bs) parts ∙ ap₂ (λ l more. label_bytes l ++ more) same.0 same.1;
      fits = subst Fits same.0 (record { nests = v.fits.0; fields = (a.fits, b.fits, c.fits, d.fits, v.fits.1) });
      left = subst AreBytes same.1 v.left;
    }

start_behind : (field rest : List ℕ) (l : Label) → AreBytes field → start_in field ≡ Ok (l, rest) → Found label_bytes Fits (2 ∷ field) l rest
unfolding start_in
start_behind field rest l h e =
    let id = then_read (text_in field) _ (l, rest) e in
    let namespace = then_read (text_in id.0.1) _ (l, rest) id.2 in
    let name = then_read (text_in namespace.0.1) _ (l, rest) namespace.2 in
    let version = then_read (text_in name.0.1) _ (l, rest) name.2 in
    let input = then_read (value_in 64 version.0.1) _ (l, rest) version.2 in
    let key : DocKey = record { namespace = namespace.0.0; name = name.0.0; version = version.0.0 } in
    started field id.0.0 id.0.1 key namespace.0.1 name.0.1 version.0.1 input.0.0 input.0.1 rest l h id.1 namespace.1 name.1 version.1 input.1 input.2

-- two fields, one behind the other
two_parts : (a b field more rest : List ℕ) → field ≡ a ++ more → more ≡ b ++ rest → field ≡ (a ++ b) ++ rest
two_parts a b field more rest p q = p ∙ ap (λ bs. a ++ bs) q ∙ sym (append_assoc a b rest)

-- what is made of something that is there
made : {A B : Type 0} (f : A → B) (o : Option A) (y : B) → option_map f o ≡ Some y → (x : A) × (o ≡ Some x) × (f x ≡ y)
made f None y e = cc
made f (Some x) y e = (x, refl, cc)

-- a value that is found and is the same as another
same_found : (most : ℕ) (field rest : List ℕ) (v w : Value) → w ≡ v → Found value_bytes (λ v. (depth v ≤ most) × FitsValue most v) field v rest → Found value_bytes (λ v. (depth v ≤ most) × FitsValue most v) field w rest
same_found most field rest v w same found = subst (λ v. Found value_bytes (λ v. (depth v ≤ most) × FitsValue most v) field v rest) (sym same) found

event_behind : (field rest : List ℕ) (l : Label) → AreBytes field → event_in field ≡ Ok (l, rest) → Found label_bytes Fits (3 ∷ field) l rest
unfolding event_in
event_behind field rest l h e =
    let v = then_read (value_in 64 field) _ (l, rest) e in
    let label = meant_is field v.0.1 (option_map Event (told_event v.0.0)) l rest v.2 in
    let event = made Event (told_event v.0.0) l label.0 in
    let told = told_is v.0.0 event.0 event.1 in
    let found = same_found 64 field v.0.1 v.0.0 (event_value event.0) told.0 (value_behind 64 field v.0.1 v.0.0 h v.1) in
    let again : event_of (event_value event.0) ≡ Ok event.0 = ap event_of told.0 ∙ told.1 in
    record {
      is = ap (λ bs. 3 ∷ bs) found.is ∙ ap₂ (λ l more. label_bytes l ++ more) event.2 label.1;
      fits = subst Fits event.2 (record { nests = (found.fits.0, again); fields = found.fits.1 });
      left = subst AreBytes label.1 found.left;
    }

reply_behind : (field rest : List ℕ) (l : Label) → AreBytes field → reply_in field ≡ Ok (l, rest) → Found label_bytes Fits (4 ∷ field) l rest
unfolding reply_in
reply_behind field rest l h e =
    let a = then_read (text_in field) _ (l, rest) e in
    let activity = text_behind field a.0.1 a.0.0 h a.1 in
    let v = then_read (value_in 65 a.0.1) _ (l, rest) a.2 in
    let label = meant_is a.0.1 v.0.1 (option_map (Reply a.0.0) (reply_of v.0.0)) l rest v.2 in
    let reply = made (Reply a.0.0) (reply_of v.0.0) l label.0 in
    let told = value_again v.0.0 reply.0 reply.1 in
    let found = same_found 65 a.0.1 v.0.1 v.0.0 (reply_value reply.0) told.0 (value_behind 65 a.0.1 v.0.1 v.0.0 activity.left v.1) in
    let parts = two_parts (text_bytes a.0.0) (value_bytes (reply_value reply.0)) field a.0.1 v.0.1 activity.is found.is in
    record {
      is = ap (λ bs. 4 ∷ bs) parts ∙ ap₂ (λ l more. label_bytes l ++ more) reply.2 label.1;
      fits = subst Fits reply.2 (record { nests = (found.fits.0, told.1); fields = (activity.fits, found.fits.1) });
      left = subst AreBytes label.1 found.left;
    }

step_behind : (field rest : List ℕ) (l : Label) → AreBytes field → step_in field ≡ Ok (l, rest) → Found label_bytes Fits (6 ∷ field) l rest
unfolding step_in
step_behind field rest l h e =
    let id = then_read (text_in field) _ (l, rest) e in
    let id_found = text_behind field id.0.1 id.0.0 h id.1 in
    let s = then_read (strand_in id.0.1) _ (l, rest) id.2 in
    let found = strand_behind id.0.1 s.0.1 s.0.0 id_found.left s.1 in
    let same = read_is (Step id.0.0 s.0.0) l s.0.1 rest s.2 in
    let parts = two_parts (text_bytes id.0.0) (strand_bytes s.0.0) field id.0.1 s.0.1 id_found.is found.is in
    record {
      is = ap (λ bs. 6 ∷ bs) parts ∙ ap₂ (λ l more. label_bytes l ++ more) same.0 same.1;
      fits = subst Fits same.0 (record { nests = tt; fields = (id_found.fits, found.fits) });
      left = subst AreBytes same.1 found.left;
    }

-- a number that is a moment's
in_time : (b : Bool) (field : List ℕ) (n : ℕ × List ℕ) (l : Label) (rest : List ℕ) → nat_le n.0 last_moment ≡ b → cond {A = Reading Label} b (Ok (Moment n.0, n.1)) (Err field) ≡ Ok (l, rest) → (n.0 ≤ last_moment) × ((Moment n.0 ≡ l) × (n.1 ≡ rest))
in_time true field n l rest t e = (leb-true n.0 last_moment t, read_is (Moment n.0) l n.1 rest e)
in_time false field n l rest t e = cc

moment_behind : (field rest : List ℕ) (l : Label) → AreBytes field → moment_in field ≡ Ok (l, rest) → Found label_bytes Fits (5 ∷ field) l rest
unfolding moment_in
moment_behind field rest l h e =
    let n = then_read (number_in w64 field) _ (l, rest) e in
    let found = eight_behind field n.0.1 n.0.0 h n.1 in
    let same = in_time (nat_le n.0.0 last_moment) field n.0 l rest refl n.2 in
    record {
      is = ap (λ bs. 5 ∷ bs) found.is ∙ ap₂ (λ l more. label_bytes l ++ more) same.1.0 same.1.1;
      fits = subst Fits same.1.0 (record { nests = tt; fields = same.0 });
      left = subst AreBytes same.1.1 found.left;
    }

-- a choice by a tag
by_test : {A : Type 0} (tag n : ℕ) (here other : Reading A) (p : A × List ℕ) (b : Bool) → eqb tag n ≡ b → cond b here other ≡ Ok p → ((tag ≡ n) × (here ≡ Ok p)) ⊎ (other ≡ Ok p)
by_test tag n here other p true t e = inl (eqb-true tag n t, e)
by_test tag n here other p false t e = inr e

by_tag : {A : Type 0} (tag n : ℕ) (here other : Reading A) (p : A × List ℕ) → cond (eqb tag n) here other ≡ Ok p → ((tag ≡ n) × (here ≡ Ok p)) ⊎ (other ≡ Ok p)
by_tag tag n here other p e = by_test tag n here other p (eqb tag n) refl e

label_behind : (field rest : List ℕ) (l : Label) → AreBytes field → label_in field ≡ Ok (l, rest) → Found label_bytes Fits field l rest
unfolding label_in
label_behind [] rest l h e = cc
label_behind (tag ∷ field) rest l h e = elim (by_tag tag 1 (load_in field) _ (l, rest) e) [
  | inl load ↦ subst (λ t. Found label_bytes Fits (t ∷ field) l rest) (sym load.0) (load_behind field rest l h.1 load.1)
  | inr not_load ↦ elim (by_tag tag 2 (start_in field) _ (l, rest) not_load) [
    | inl start ↦ subst (λ t. Found label_bytes Fits (t ∷ field) l rest) (sym start.0) (start_behind field rest l h.1 start.1)
    | inr not_start ↦ elim (by_tag tag 3 (event_in field) _ (l, rest) not_start) [
      | inl event ↦ subst (λ t. Found label_bytes Fits (t ∷ field) l rest) (sym event.0) (event_behind field rest l h.1 event.1)
      | inr not_event ↦ elim (by_tag tag 4 (reply_in field) _ (l, rest) not_event) [
        | inl reply ↦ subst (λ t. Found label_bytes Fits (t ∷ field) l rest) (sym reply.0) (reply_behind field rest l h.1 reply.1)
        | inr not_reply ↦ elim (by_tag tag 5 (moment_in field) _ (l, rest) not_reply) [
          | inl moment ↦ subst (λ t. Found label_bytes Fits (t ∷ field) l rest) (sym moment.0) (moment_behind field rest l h.1 moment.1)
          | inr not_moment ↦ elim (by_tag tag 6 (step_in field) _ (l, rest) not_moment) [
            | inl step ↦ subst (λ t. Found label_bytes Fits (t ∷ field) l rest) (sym step.0) (step_behind field rest l h.1 step.1)
            | inr none ↦ cc
          ]
        ]
      ]
    ]
  ]
]

-- ---- lists of labels

nothing_left : (ls ms : List Label) (more rest : List ℕ) → ended ls more ≡ Ok (ms, rest) → (ls ≡ ms) × (more ≡ [])
nothing_left ls ms [] rest e = let same = read_is ls ms [] rest e in (same.0, refl)
nothing_left ls ms (b ∷ more) rest e = cc

not_none : {A : Type 0} (n : ℕ) (field : List ℕ) (o : Reading A) (p : A × List ℕ) → cond (eqb n 0) (Err field) o ≡ Ok p → (0 < n) × (o ≡ Ok p)
not_none zero field o p e = cc
not_none (suc n) field o p e = (omega arith, (if_read (eqb (suc n) 0) field o p e).1)

placed_is : {A : Type 0} (bytes : List ℕ) (r : Reading A) (x : A) → placed bytes r ≡ Ok x → (rest : List ℕ) × (r ≡ Ok (x, rest))
placed_is bytes (Ok p) x e = let same : p.0 ≡ x = cc in (p.1, ap (λ y. Ok (y, p.1)) same)
placed_is bytes (Err rest) x e = cc

record_ahead : (n : ℕ) (ls : List Label) (bytes : List ℕ) → 0 < length ls → AllByRecursion Fits ls → n ≡ length ls
    → cond (eqb n 0) (Err bytes) (many_in label_in n (flat_map label_bytes ls) >>= λ ls. ended ls.0 ls.1) ≡ Ok (ls, [])
record_ahead zero ls bytes some fit e = absurd (omega arith)
record_ahead (suc n) ls bytes some fit e =
    let read : many_in label_in (suc n) (flat_map label_bytes ls) ≡ Ok (ls, []) = ap₂ (many_in label_in) e (sym (append-nil (flat_map label_bytes ls))) ∙ many_ahead label_in label_bytes Fits label_ahead ls [] fit in
    let none : eqb (suc n) 0 ≡ false = eqb-suc-zero n in
    rw (none, read) refl

-- the bytes of labels are read as them
pub encodes_decoded : (labels : List Label) (bytes : List ℕ) → Encodes labels bytes → decoded bytes ≡ Ok labels
unfolding decoded record_in labels_bytes
encodes_decoded labels bytes h =
    let read : number_in w32 bytes ≡ Ok (length labels, flat_map label_bytes labels) = ap (number_in w32) h.spelled ∙ four_ahead (length labels) (flat_map label_bytes labels) h.few in
    ap (λ r. placed bytes (r >>= λ n. cond (eqb n.0 0) (Err bytes) (many_in label_in n.0 n.1 >>= λ ls. ended ls.0 ls.1))) read
    ∙ ap (placed bytes) (record_ahead (length labels) labels bytes h.some h.fit refl)

-- what bytes are read as has these bytes
pub decoded_encodes : (labels : List Label) (bytes : List ℕ) → ((k : ℕ) → get_or bytes k 0 < 256) → decoded bytes ≡ Ok labels → Encodes labels bytes
unfolding decoded record_in labels_bytes
decoded_encodes labels bytes each e =
    let whole = placed_is bytes _ labels e in
    let n = then_read (number_in w32 bytes) _ (labels, whole.0) whole.1 in
    let count = four_behind bytes n.0.1 n.0.0 (AreBytes-from_each bytes each) n.1 in
    let some = not_none n.0.0 bytes _ (labels, whole.0) n.2 in
    let ls = then_read (many_in label_in n.0.0 n.0.1) _ (labels, whole.0) some.1 in
    let found = many_behind label_in label_bytes Fits label_behind n.0.0 n.0.1 ls.0.1 ls.0.0 count.left ls.1 in
    let last = nothing_left ls.0.0 labels ls.0.1 whole.0 ls.2 in
    let length_is : length labels ≡ n.0.0 = ap length (sym last.0) ∙ found.0 in
    let behind : n.0.1 ≡ flat_map label_bytes labels = found.1.is ∙ ap₂ (λ ls more. flat_map label_bytes ls ++ more) last.0 last.1 ∙ append-nil (flat_map label_bytes labels) in
    record {
      some = omega (arith, some.0, length_is);
      few = omega (arith, count.fits, length_is);
      fit = subst (AllByRecursion Fits) last.0 found.1.fits;
      spelled = count.is ∙ ap₂ (λ m more. four_bytes m ++ more) (sym length_is) behind;
    }

-- bytes are those of one list
pub one_list : (a b : List Label) (bytes : List ℕ) → Encodes a bytes → Encodes b bytes → a ≡ b
one_list a b bytes h g = let same : ◌≡◌ {A = Result (List Label) ℕ} (Ok a) (Ok b) = sym (encodes_decoded a bytes h) ∙ encodes_decoded b bytes g in cc

-- the place behind the last label
pub length_encodes : (labels : List Label) (bytes : List ℕ) → Encodes labels bytes → length bytes ≡ label_place labels
unfolding labels_bytes
length_encodes labels bytes h =
    ap length h.spelled ∙ length-append (four_bytes (length labels)) (flat_map label_bytes labels) ∙ ap (λ n. n + length (flat_map label_bytes labels)) (length-four_bytes (length labels))
