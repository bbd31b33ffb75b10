-- What is sent can be sent.
use Rattle.std.proofs.Common.{◌≡◌, ◌∙◌, sym, subst, refl, ap, ℕ, ◌-◌, ◌<◌, ◌^◌, List, [], ◌∷◌, Bool, true, false, not, ◌&&◌, ◌||◌, nat_lt, codes, decimal, length, reverse, All, cond, arith}
use Rattle.std.specs.Int.{IsInRange}
use Rattle.std.specs.List.{list_all}
use Rattle.std.specs.Ordering.{nat_cmp}
use Rattle.std.specs.declared.cmp.Ordering.{Ordering}
use Rattle.std.specs.declared.cmp.Ordering.TheVariants.{Less, Equal, Greater}
use Rattle.std.specs.Cmp.Lexicographic.{slice_cmp}
use Rattle.std.proofs.lemmas.Bool.{ltb-true}
use Rattle.std.proofs.lemmas.Bool.Decides.{nat_tests}
use Rattle.std.proofs.lemmas.List.{reverse-reverse, get_or-reverse, length-reverse}
use Rattle.std.proofs.lemmas.List.Elements.{All-nil, All-cons, All-head, All-tail, All-weaker, All-filter, All-get_or, All-from_get_or}
use Rattle.httparse.specs.Grammar.{AllPass, IsToken, is_token_byte, is_ows, skip_ows, trim_ows}
use Rattle.swf_text.proofs.SameLemmas.{both_true}
use Rattle.swf_calls.specs.declared.headers.Header.{Header}
use Rattle.swf_calls.specs.declared.method.Method.{Method}
use Rattle.swf_calls.specs.declared.method.Method.TheVariants as methods
use Rattle.swf_calls.specs.Headers.{later_field, placed, put_field}
use Rattle.swf_calls.specs.Request.{are_sendable, begins_blank, is_blank, is_field_name, is_field_value, is_name_character, is_sendable, is_visible as is_visible_character, method_name}
use Rattle.swf_http.specs.Sent.{is_visible, IsPlain, IsSendable}
use Rattle.url.proofs.HostRoundTrip.{All-decimal}
use Rattle.swf_connect.specs.Sending.{is_withheld, own_headers, passed_headers, put_fields}

-- ---- names and values

all_pass : (test : ℕ → Bool) (t : List ℕ) → list_all test t ≡ true → AllPass test t
all_pass test [] all = All-nil (λ b. test b ≡ true)
all_pass test (b ∷ t) all =
    let p = both_true (test b) (list_all test t) all in
    All-cons (λ b. test b ≡ true) b t p.0 (all_pass test t p.1)

pub token_from : (t : List ℕ) → is_field_name t ≡ true → IsToken t
unfolding is_token_byte
token_from t is =
    let p = both_true (nat_lt 0 (length t)) (list_all is_name_character t) is in
    (ltb-true 0 (length t) p.0, all_pass is_name_character t p.1)

not_true : (b : Bool) → not b ≡ true → b ≡ false
not_true false e = refl
not_true true e = sym e

first_stays : (t : List ℕ) → begins_blank t ≡ false → skip_ows t ≡ t
first_stays [] e = refl
first_stays (b ∷ t) e = rw e refl

trimmed : (t : List ℕ) → begins_blank t ≡ false → begins_blank (reverse t) ≡ false → trim_ows t ≡ t
unfolding trim_ows
trimmed t front back =
    ap (λ (s : List ℕ). reverse (skip_ows (reverse s))) (first_stays t front) ∙ ap reverse (first_stays (reverse t) back) ∙ reverse-reverse t

pub plain_from : (t : List ℕ) → is_field_value t ≡ true → IsPlain t
plain_from t is =
    let all = list_all (λ c. is_visible_character c || is_blank c) t in
    let a = both_true (all && not (begins_blank t)) (not (begins_blank (reverse t))) is in
    let b = both_true all (not (begins_blank t)) a.0 in
    record {
      bytes = all_pass (λ c. is_visible_character c || is_blank c) t b.0;
      trimmed = trimmed t (not_true (begins_blank t) b.1) (not_true (begins_blank (reverse t)) a.1);
    }

pub sendable_from : (h : Header) → is_sendable h ≡ true → IsSendable h
sendable_from h is =
    let p = both_true (is_field_name h.name) (is_field_value h.value) is in
    record { name = token_from h.name p.0; value = plain_from h.value p.1 }

all_sendable : (hs : List Header) → are_sendable hs ≡ true → All IsSendable hs
all_sendable [] are = All-nil IsSendable
all_sendable (h ∷ hs) are =
    let p = both_true (is_sendable h) (list_all is_sendable hs) are in
    All-cons IsSendable h hs (sendable_from h p.0) (all_sendable hs p.1)

-- ---- visible values

no_blank : (t : List ℕ) → AllPass is_visible t → begins_blank t ≡ false
no_blank [] all = refl
no_blank (b ∷ t) all = let v = All-head (λ c. is_visible c ≡ true) b t all in grind (arith, nat_tests)

all_reversed : (t : List ℕ) → AllPass is_visible t → AllPass is_visible (reverse t)
all_reversed t all = All-from_get_or (λ c. is_visible c ≡ true) (reverse t) 0 (λ i within.
    let inside : i < length t = omega (arith, within, length-reverse t) in
    subst (λ (c : ℕ). is_visible c ≡ true) (sym (get_or-reverse t i 0 inside))
    (All-get_or (λ c. is_visible c ≡ true) t (length t - 1 - i) 0 (omega (arith, inside)) all))

pub plain_visible : (t : List ℕ) → AllPass is_visible t → IsPlain t
plain_visible t all = record {
  bytes = All-weaker (λ c. is_visible c ≡ true) (λ c. (is_visible c || is_ows c) ≡ true) (λ c v. rw v refl) t all;
  trimmed = trimmed t (no_blank t all) (no_blank (reverse t) (all_reversed t all));
}

pub decimal_visible : (n : ℕ) → n < 2 ^ 64 → AllPass is_visible (decimal n)
decimal_visible n fits = All-weaker (IsInRange 48 57) (λ c. is_visible c ≡ true) (λ c digit. grind (arith, nat_tests)) (decimal n) (All-decimal n fits)

-- ---- headers

put_placed : (o : Ordering) (f h : Header) (hs more : List Header) → IsSendable f → All IsSendable (h ∷ hs) → All IsSendable more
    → All IsSendable (placed later_field o f h hs more)
put_placed Less f h hs more is all rest = All-cons IsSendable f (h ∷ hs) is all
put_placed Equal f h hs more is all rest = All-cons IsSendable f hs is (All-tail IsSendable h hs all)
put_placed Greater f h hs more is all rest = All-cons IsSendable h more (All-head IsSendable h hs all) rest

put_sendable : (f : Header) (hs : List Header) → IsSendable f → All IsSendable hs → All IsSendable (put_field f hs)
put_sendable f [] is all = All-cons IsSendable f [] is (All-nil IsSendable)
put_sendable f (h ∷ hs) is all =
    put_placed (slice_cmp nat_cmp f.name h.name) f h hs (put_field f hs) is all (put_sendable f hs is (All-tail IsSendable h hs all))

puts_sendable : (fs hs : List Header) → All IsSendable fs → All IsSendable hs → All IsSendable (put_fields fs hs)
puts_sendable [] hs fields all = all
puts_sendable (f ∷ fs) hs fields all =
    puts_sendable fs (put_field f hs) (All-tail IsSendable f fs fields) (put_sendable f hs (All-head IsSendable f fs fields) all)

own_sendable : (size : ℕ) (host : List ℕ) → size < 2 ^ 64 → AllPass is_visible host → All IsSendable (own_headers size host)
own_sendable size host fits visible =
    let connection : Header = record { name = codes "Connection"; value = codes "close" } in
    let length_of : Header = record { name = codes "Content-Length"; value = decimal size } in
    let host_of : Header = record { name = codes "Host"; value = host } in
    All-cons IsSendable connection (length_of ∷ host_of ∷ []) (sendable_from connection refl)
    (All-cons IsSendable length_of (host_of ∷ [])
    (record { name = token_from (codes "Content-Length") refl; value = plain_visible (decimal size) (decimal_visible size fits) })
    (All-cons IsSendable host_of [] (record { name = token_from (codes "Host") refl; value = plain_visible host visible }) (All-nil IsSendable)))

type_sendable : (b : Bool) → All IsSendable (cond b ((record { name = codes "Content-Type"; value = codes "application/json" }) ∷ []) [])
type_sendable true =
    let h : Header = record { name = codes "Content-Type"; value = codes "application/json" } in
    All-cons IsSendable h [] (sendable_from h refl) (All-nil IsSendable)
type_sendable false = All-nil IsSendable

pub sent_sendable : (given : List Header) (json : Bool) (size : ℕ) (host : List ℕ) → are_sendable given ≡ true → size < 2 ^ 64 → AllPass is_visible host
    → All IsSendable (put_fields (own_headers size host)
    (put_fields (cond json ((record { name = codes "Content-Type"; value = codes "application/json" }) ∷ []) []) (put_fields (passed_headers given) [])))
sent_sendable given json size host are fits visible =
    let types = cond json ((record { name = codes "Content-Type"; value = codes "application/json" }) ∷ []) [] in
    puts_sendable (own_headers size host) (put_fields types (put_fields (passed_headers given) [])) (own_sendable size host fits visible)
    (puts_sendable types (put_fields (passed_headers given) []) (type_sendable json)
    (puts_sendable (passed_headers given) [] (All-filter (λ h. not (is_withheld h)) IsSendable given (all_sendable given are)) (All-nil IsSendable)))

pub method_token : (m : Method) → IsToken (method_name m)
method_token methods.Get = token_from (codes "GET") refl
method_token methods.Head = token_from (codes "HEAD") refl
method_token methods.Post = token_from (codes "POST") refl
method_token methods.Put = token_from (codes "PUT") refl
method_token methods.Delete = token_from (codes "DELETE") refl
method_token methods.Patch = token_from (codes "PATCH") refl
method_token methods.Options = token_from (codes "OPTIONS") refl
