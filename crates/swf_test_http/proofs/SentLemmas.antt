-- What is looked at before a message is written makes it one that may be sent.
use Rattle.std.proofs.Common.{◌≡◌, ◌∙◌, sym, subst, refl, ap, ℕ, List, [], ◌∷◌, Bool, true, false, not, ◌&&◌, ◌||◌, nat_lt, length, reverse, All, codes}
use Rattle.std.specs.List.{list_all, list_any}
use Rattle.std.specs.Str.{encode_utf8_all}
use Rattle.std.proofs.lemmas.Bool.{ltb-true}
use Rattle.std.proofs.lemmas.List.{reverse-reverse}
use Rattle.std.proofs.lemmas.List.Elements.{All-nil, All-cons, All-head, All-tail}
use Rattle.http1.specs.Text.{eq_ignore_case}
use Rattle.httparse.specs.Grammar.{AllPass, IsToken, is_token_byte, skip_ows, trim_ows}
use Rattle.swf_text.proofs.SameLemmas.{both_true}
use Rattle.swf_http.proofs.SentLemmas.{text_bytes, token_ascii}
use Rattle.swf_calls.specs.declared.headers.Header.{Header}
use Rattle.swf_calls.specs.Request.{are_sendable, begins_blank, is_blank, is_field_name, is_field_value, is_name_character, is_sendable, is_visible as is_visible_character}
use Rattle.swf_http.specs.declared.message.Request.{Request}
use Rattle.swf_http.specs.declared.message.Response.{Response}
use Rattle.swf_http.specs.Sent.{is_visible, IsOther, IsPlain, IsSendable, IsSendableRequest, IsSendableResponse, IsSendableStatus}

all_pass : (test : ℕ → Bool) (t : List ℕ) → list_all test t ≡ true → AllPass test t
all_pass test [] all = All-nil (λ b. test b ≡ true)
all_pass test (b ∷ t) all =
    let p = both_true (test b) (list_all test t) all in
    All-cons (λ b. test b ≡ true) b t p.0 (all_pass test t p.1)

token_from : (t : List ℕ) → is_field_name t ≡ true → IsToken t
unfolding is_token_byte
token_from t is =
    let p = both_true (nat_lt 0 (length t)) (list_all is_name_character t) is in
    (ltb-true 0 (length t) p.0, all_pass is_name_character t p.1)

not_true : (b : Bool) → not b ≡ true → b ≡ false
not_true false e = refl
not_true true e = sym e

first_stays : (t : List ℕ) → begins_blank t ≡ false → skip_ows t ≡ t
first_stays [] e = refl
first_stays (b ∷ t) e = rw e refl

trimmed : (t : List ℕ) → begins_blank t ≡ false → begins_blank (reverse t) ≡ false → trim_ows t ≡ t
unfolding trim_ows
trimmed t front back =
    ap (λ (s : List ℕ). reverse (skip_ows (reverse s))) (first_stays t front) ∙ ap reverse (first_stays (reverse t) back) ∙ reverse-reverse t

plain_from : (t : List ℕ) → is_field_value t ≡ true → IsPlain t
plain_from t is =
    let all = list_all (λ c. is_visible_character c || is_blank c) t in
    let a = both_true (all && not (begins_blank t)) (not (begins_blank (reverse t))) is in
    let b = both_true all (not (begins_blank t)) a.0 in
    record {
      bytes = all_pass (λ c. is_visible_character c || is_blank c) t b.0;
      trimmed = trimmed t (not_true (begins_blank t) b.1) (not_true (begins_blank (reverse t)) a.1);
    }

-- a text that is a name and a value is a token
pub token_of : (t : List ℕ) → is_sendable (record { name = t; value = t }) ≡ true → IsToken t
token_of t is = token_from t (both_true (is_field_name t) (is_field_value t) is).0

sendable_from : (h : Header) → is_sendable h ≡ true → IsSendable h
sendable_from h is =
    let p = both_true (is_field_name h.name) (is_field_value h.value) is in
    record { name = token_from h.name p.0; value = plain_from h.value p.1 }

all_sendable : (hs : List Header) → are_sendable hs ≡ true → All IsSendable hs
all_sendable [] are = All-nil IsSendable
all_sendable (h ∷ hs) are =
    let p = both_true (is_sendable h) (list_all is_sendable hs) are in
    All-cons IsSendable h hs (sendable_from h p.0) (all_sendable hs p.1)

-- characters that are there, and show
pub target_from : (r : Request) → IsToken r.method → (nat_lt 0 (length r.target) && list_all is_visible r.target) ≡ true
    → are_sendable r.headers ≡ true → IsSendableRequest r
target_from r token is are =
    let p = both_true (nat_lt 0 (length r.target)) (list_all is_visible r.target) is in
    record {
      method = token;
      some_target = ltb-true 0 (length r.target) p.0;
      target = all_pass is_visible r.target p.1;
      headers = all_sendable r.headers are;
    }

none_true : (a b : Bool) → (a || b) ≡ false → (a ≡ false) × (b ≡ false)
none_true false b e = (refl, e)
none_true true b e = cc

-- one of the headers that a response's writer writes itself, or never
abbrev is_own : Header → Bool
is_own h =
    eq_ignore_case (encode_utf8_all h.name) (codes "content-length")
    || (eq_ignore_case (encode_utf8_all h.name) (codes "connection") || eq_ignore_case (encode_utf8_all h.name) (codes "transfer-encoding"))

other_from : (h : Header) → IsSendable h → is_own h ≡ false → IsOther h
other_from h is free =
    let bytes : encode_utf8_all h.name ≡ h.name = text_bytes h.name (token_ascii h.name is.name) in
    let differs : (word : List ℕ) → eq_ignore_case (encode_utf8_all h.name) word ≡ false → eq_ignore_case h.name word ≡ false =
    λ word. subst (λ (name : List ℕ). eq_ignore_case name word ≡ false) bytes in
    let connection = eq_ignore_case (encode_utf8_all h.name) (codes "connection") in
    let coding = eq_ignore_case (encode_utf8_all h.name) (codes "transfer-encoding") in
    let p = none_true (eq_ignore_case (encode_utf8_all h.name) (codes "content-length")) (connection || coding) free in
    let q = none_true connection coding p.1 in
    (differs (codes "content-length") p.0, differs (codes "connection") q.0, differs (codes "transfer-encoding") q.1)

all_other : (hs : List Header) → All IsSendable hs → list_any is_own hs ≡ false → All IsOther hs
all_other [] are free = All-nil IsOther
all_other (h ∷ hs) are free =
    let p = none_true (is_own h) (list_any is_own hs) free in
    All-cons IsOther h hs (other_from h (All-head IsSendable h hs are) p.0) (all_other hs (All-tail IsSendable h hs are) p.1)

pub response_from : (r : Response) → IsSendableStatus r.status → are_sendable r.headers ≡ true → list_any is_own r.headers ≡ false
    → IsSendableResponse r
response_from r status are none =
    let headers = all_sendable r.headers are in
    record { status = status; headers = headers; others = all_other r.headers headers none }
