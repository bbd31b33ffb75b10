-- Replies and the values that they are read from.
use Rattle.std.proofs.Common.{◌≡◌, ◌∙◌, refl, ap, sym, subst, ℕ, suc, ◌≤◌, pos, negsuc, List, [], ◌∷◌, length, Bool, true, false, ◌&&◌, cond, codes, Option, Some, None, arith}
use Rattle.swf_text.specs.Same.{same}
use Rattle.swf_text.proofs.SameLemmas.{both_true, same_true}
use Rattle.swf_value.specs.Value.{Value, null, boolean, int, text, list, object, Members, no_members, member, depth}
use Rattle.swf_value.specs.Node.{members_of}
use Rattle.swf_value.specs.declared.value.Member.{Member}
use Rattle.swf_calls.specs.declared.headers.Header.{Header}
use Rattle.swf_calls.specs.declared.reply.CallReply.{CallReply}
use Rattle.swf_calls.specs.declared.reply.CallReply.TheVariants.{Answer, Unreached}
use Rattle.swf_calls.specs.Headers.{headers_of}
use Rattle.swf_calls.specs.Reply.{reply_value, is_status, IsInRange, status_of, answered, unreached, reply_in, reply_of}
use Rattle.swf_calls.proofs.HeaderLemmas.{headers_again, object_again}

-- a reply has one member or three
pub no_reply : (ms : List Member) → (length ms ≡ 1 → ⊥) → (length ms ≡ 3 → ⊥) → None ≡ reply_in (members_of ms)
no_reply [] one three = refl
no_reply (a ∷ []) one three = absurd (one refl)
no_reply (a ∷ b ∷ []) one three = refl
no_reply (a ∷ b ∷ c ∷ []) one three = absurd (three refl)
no_reply (a ∷ b ∷ c ∷ d ∷ ms) one three = refl

-- what is there only where a test passes
passed : {A : Type 0} (b : Bool) (o : Option A) (x : A) → cond b o None ≡ Some x → (b ≡ true) × (o ≡ Some x)
passed true o x e = (refl, e)
passed false o x e = cc

status_again : (v : Value) (n : ℕ) → status_of v ≡ Some n → (int (pos n) ≡ v) × (is_status n ≡ true)
status_again (int (pos m)) n e =
    let p = passed (is_status m) (Some m) n e in
    let is : m ≡ n = cc in
    (ap (λ k. int (pos k)) (sym is), ap is_status (sym is) ∙ p.0)
status_again (int (negsuc m)) n e = cc
status_again null n e = cc
status_again (boolean b) n e = cc
status_again (text t) n e = cc
status_again (list ds) n e = cc
status_again (object ms) n e = cc

answer_again : (c : Value) (hs : Option (List Header)) (st : Option ℕ) (r : CallReply) → answered c hs st ≡ Some r → (h : List Header) × (s : ℕ) × (hs ≡ Some h) × (st ≡ Some s) × (Answer s h c ≡ r)
answer_again c (Some h) (Some s) r e = (h, s, refl, refl, cc)
answer_again c (Some h) None r e = cc
answer_again c None st r e = cc

unreached_again : (v : Value) (r : CallReply) → unreached v ≡ Some r → (boolean true ≡ v) × (Unreached ≡ r)
unreached_again (boolean true) r e = (refl, cc)
unreached_again (boolean false) r e = cc
unreached_again null r e = cc
unreached_again (int z) r e = cc
unreached_again (text t) r e = cc
unreached_again (list ds) r e = cc
unreached_again (object ms) r e = cc

-- the members that a reply is read from are those of its value
members_again : (ms : Members) (r : CallReply) → reply_in ms ≡ Some r → (reply_value r ≡ object ms) × IsInRange r
members_again no_members r e = cc
members_again (member k v no_members) r e =
    let p = passed (same k (codes "unreached")) (unreached v) r e in
    let q = unreached_again v r p.1 in
    let name = same_true k (codes "unreached") p.0 in
    (ap reply_value (sym q.1) ∙ (λ i. object (member (sym name i) (q.0 i) no_members)), subst IsInRange q.1 tt)
members_again (member k v (member l w no_members)) r e = cc
members_again (member k c (member l hs (member m st no_members))) r e =
    let p = passed (same k (codes "content") && same l (codes "headers") && same m (codes "status")) (answered c (headers_of hs) (status_of st)) r e in
    let a = both_true (same k (codes "content") && same l (codes "headers")) (same m (codes "status")) p.0 in
    let b = both_true (same k (codes "content")) (same l (codes "headers")) a.0 in
    let content = same_true k (codes "content") b.0 in
    let headers = same_true l (codes "headers") b.1 in
    let status = same_true m (codes "status") a.1 in
    let q = answer_again c (headers_of hs) (status_of st) r p.1 in
    let object_is = object_again hs q.0 q.2 in
    let status_is = status_again st q.1 q.3 in (
      ap reply_value (sym q.4)
          ∙ (λ i. object (member (sym content i) c (member (sym headers i) (object_is i) (member (sym status i) (status_is.0 i) no_members)))),
      subst IsInRange q.4 status_is.1,
    )
members_again (member k c (member l hs (member m st (member n v ms)))) r e = cc

pub value_again : (v : Value) (r : CallReply) → reply_of v ≡ Some r → (reply_value r ≡ v) × IsInRange r
value_again (object ms) r e = members_again ms r e
value_again null r e = cc
value_again (boolean b) r e = cc
value_again (int z) r e = cc
value_again (text t) r e = cc
value_again (list ds) r e = cc

pub reply_again : (r : CallReply) → IsInRange r → reply_of (reply_value r) ≡ Some r
reply_again Unreached h = refl
reply_again (Answer s h c) t =
    let headers = headers_again h in
    let status : status_of (int (pos s)) ≡ Some s = ap (λ b. cond b (Some s) None) t in
    (λ i. answered c (headers i) (status i))

pub content_within : (v : Value) (s : ℕ) (h : List Header) (c : Value) → reply_of v ≡ Some (Answer s h c) → suc (depth c) ≤ depth v
content_within v s h c e = omega (arith, ap depth (value_again v (Answer s h c) e).0)
