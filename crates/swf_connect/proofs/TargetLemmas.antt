-- The parts of a URL with a host are visible.
use Rattle.std.proofs.Common.{◌≡◌, sym, subst, refl, ℕ, ◌<◌, List, [], ◌∷◌, ◌++◌, Bool, true, false, not, ◌&&◌, ◌||◌, ◌==◌, nat_lt, cond, codes, length, length-append, Option, Some, None, option_map, All, arith, ⊎_elim}
use Rattle.std.specs.List.{list_any}
use Rattle.std.specs.Prelude.{IfSome}
use Rattle.std.proofs.lemmas.Bool.Decides.{nat_tests}
use Rattle.std.proofs.lemmas.List.Elements.{All-nil, All-cons, All-head, All-tail, All-append, All-weaker}
use Rattle.httparse.specs.Grammar.{AllPass, IsToken}
use Rattle.percent_encoding.specs.Percent.{IsKept}
use Rattle.percent_encoding.specs.declared.ascii_set.TheConstants.{CONTROLS}
use Rattle.url.specs.declared.sets.TheConstants.{PATH, QUERY, SPECIAL_QUERY, FORBIDDEN_HOST, FORBIDDEN_DOMAIN}
use Rattle.url.specs.declared.host.Host.{Host}
use Rattle.url.specs.declared.scheme.SchemeType.{SchemeType}
use Rattle.url.specs.Host.{host_text, IsHostOf}
use Rattle.url.specs.Input.{is_empty}
use Rattle.url.specs.Parts.{Parts, kind_of, has_host, nonempty_host, cannot_be_a_base, query_set, IsValid, IsPortOf}
use Rattle.url.specs.Scheme.{is_special}
use Rattle.url.proofs.HostLemmas.{All-host_text}
use Rattle.url.proofs.SetLemmas.{passes_from_kept}
use Rattle.url.proofs.ValidLemmas.{segment_list_kept}
use Rattle.swf_http.specs.Sent.{is_visible}
use Rattle.swf_connect.specs.Reaching.{host_of}
use Rattle.swf_connect.specs.Sending.{host_value, origin_form, port_part, query_part}
use Rattle.swf_connect.specs.Sending.{is_json_body, is_named, IsMessage}
use Rattle.swf_text.specs.Same.{is_ascii}
use Rattle.swf_calls.specs.Request.{Request, are_sendable}
use Rattle.swf_http.specs.declared.message.Request.{Request as Message}
use Rattle.swf_http.specs.Sent.{IsSendable, IsSendableRequest}
use Rattle.swf_connect.proofs.SendLemmas.{decimal_visible, method_token, sent_sendable}

-- ---- the host

abbrev Seen : ℕ → Type 0
Seen b = is_visible b ≡ true

opaque_visible : (b : ℕ) → IsKept FORBIDDEN_HOST b → IsKept CONTROLS b → Seen b
opaque_visible b allowed visible =
    let mark = passes_from_kept FORBIDDEN_HOST (λ x. not (x == 32)) refl b allowed in
    let range = passes_from_kept CONTROLS (λ x. is_visible x || x == 32) refl b visible in
    grind (arith, nat_tests)

host_visible : (kind : SchemeType) (host : Host (List ℕ)) → IsHostOf kind host → AllPass is_visible (host_text host)
host_visible kind host =
    All-host_text Seen kind host (passes_from_kept FORBIDDEN_DOMAIN is_visible refl) opaque_visible (λ b digit. grind (arith, nat_tests)) (λ b hex. grind (arith, nat_tests)) refl refl

-- what a choice gives is what was chosen from
chosen : (b : Bool) (o : Option (Host (List ℕ))) (h : Host (List ℕ)) → cond b o None ≡ Some h → o ≡ Some h
chosen true o h e = e
chosen false o h e = cc

mapped : (o : Option (Host (List ℕ))) (t : List ℕ) → Some t ≡ option_map host_text o → (h : Host (List ℕ)) × (o ≡ Some h) × (host_text h ≡ t)
mapped None t e = cc
mapped (Some h) t e = (h, refl, cc)

-- the host that a text is
hosted : (url : Parts) (t : List ℕ) → Some t ≡ host_of url → (h : Host (List ℕ)) × (url.host ≡ Some h) × (host_text h ≡ t)
hosted url t e =
    let p = mapped (nonempty_host url) t e in
    (p.0, chosen (has_host url) url.host p.0 p.1, p.2)

pub text_visible : (url : Parts) (t : List ℕ) → IsValid url → Some t ≡ host_of url → AllPass is_visible t
text_visible url t valid e =
    let p = hosted url t e in
    subst (AllPass is_visible) p.2 (host_visible (kind_of url) p.0 (rw p.1 at valid.head.host))

port_visible : (scheme : List ℕ) (port : Option ℕ) → IsPortOf scheme port → AllPass is_visible (port_part port)
port_visible scheme None is = All-nil Seen
port_visible scheme (Some n) is = All-cons Seen 58 _ refl (decimal_visible n (omega (arith, is.0)))

pub value_visible : (url : Parts) (t : List ℕ) → IsValid url → Some t ≡ host_of url → AllPass is_visible (host_value t url.port)
value_visible url t valid e =
    All-append Seen t (port_part url.port) (text_visible url t valid e) (port_visible url.scheme url.port valid.head.port)

-- ---- the target

based : (url : Parts) (h : Host (List ℕ)) → url.host ≡ Some h → cannot_be_a_base url ≡ true → ⊥
based url h there is = let e : false ≡ true = rw there at is in cc

pub path_visible : (url : Parts) (t : List ℕ) → IsValid url → Some t ≡ host_of url → AllPass is_visible url.path
path_visible url t valid e =
    ⊎_elim (λ segments. All-weaker (IsKept PATH) Seen (passes_from_kept PATH is_visible refl) url.path (segment_list_kept (kind_of url) url.path segments.0))
    (λ opaque. let p = hosted url t e in absurd (based url p.0 p.1 opaque.0)) valid.path

query_kept : (special : Bool) (b : ℕ) → IsKept (cond special SPECIAL_QUERY QUERY) b → Seen b
query_kept true b kept = passes_from_kept SPECIAL_QUERY is_visible refl b kept
query_kept false b kept = passes_from_kept QUERY is_visible refl b kept

pub query_visible : (url : Parts) (q : List ℕ) → IsValid url → url.query ≡ Some q → AllPass is_visible q
query_visible url q valid e = All-weaker (IsKept (query_set (kind_of url))) Seen (query_kept (is_special (kind_of url))) q (rw e at valid.query)

parts_visible : (path : List ℕ) (query : Option (List ℕ)) → AllPass is_visible path → ((q : List ℕ) → query ≡ Some q → AllPass is_visible q)
    → (b : Bool) → AllPass is_visible (cond b (codes "/") path ++ query_part query)
parts_visible path None all each true = All-cons Seen 47 [] refl (All-nil Seen)
parts_visible path None all each false = All-append Seen path [] all (All-nil Seen)
parts_visible path (Some q) all each true = All-cons Seen 47 (63 ∷ q) refl (All-cons Seen 63 q refl (each q refl))
parts_visible path (Some q) all each false = All-append Seen path (63 ∷ q) all (All-cons Seen 63 q refl (each q refl))

pub target_visible : (url : Parts) (t : List ℕ) → IsValid url → Some t ≡ host_of url → AllPass is_visible (origin_form url)
target_visible url t valid e =
    parts_visible url.path url.query (path_visible url t valid e) (λ q is. query_visible url q valid is) (is_empty url.path)

some_by : (path query : List ℕ) (b : Bool) → b ≡ is_empty path → 0 < length (cond b (codes "/") path ++ query)
some_by path query true e = omega arith
some_by path query false e =
    let some : 0 < length path = grind (arith, nat_tests) in
    omega (arith, some, length-append path query)

pub some_target : (url : Parts) → 0 < length (origin_form url)
some_target url = some_by url.path (query_part url.query) (is_empty url.path) refl

-- ---- what follows for the code

visible_ascii : (t : List ℕ) → AllPass is_visible t → is_ascii t ≡ true
visible_ascii [] all = refl
visible_ascii (b ∷ t) all =
    let v = All-head Seen b t all in
    let low : nat_lt b 128 ≡ true = grind (arith, nat_tests) in
    rw low (visible_ascii t (All-tail Seen b t all))

pub text_ascii : (url : Parts) (t : List ℕ) → IsValid url → Some t ≡ host_of url → is_ascii t ≡ true
text_ascii url t valid e = visible_ascii t (text_visible url t valid e)

pub path_ascii : (url : Parts) (t : List ℕ) → IsValid url → Some t ≡ host_of url → is_ascii url.path ≡ true
path_ascii url t valid e = visible_ascii url.path (path_visible url t valid e)

query_ascii_by : (url : Parts) (query : Option (List ℕ)) → IsValid url → url.query ≡ query → IfSome query (λ q. is_ascii q ≡ true)
query_ascii_by url None valid is = tt
query_ascii_by url (Some q) valid is = visible_ascii q (query_visible url q valid is)

pub query_ascii : (url : Parts) → IsValid url → IfSome url.query (λ q. is_ascii q ≡ true)
query_ascii url valid = query_ascii_by url url.query valid refl

pub message_sendable : (request : Request) (url : Parts) (t : List ℕ) (m : Message) → IsMessage request url t m → IsValid url → Some t ≡ host_of url
    → are_sendable request.headers ≡ true → IsSendableRequest m
message_sendable request url t m is valid e are = record {
  method = subst IsToken (sym is.method_is) (method_token request.method);
  some_target = subst (λ (x : List ℕ). 0 < length x) (sym is.target_is) (some_target url);
  target = subst (AllPass is_visible) (sym is.target_is) (target_visible url t valid e);
  headers = subst (All IsSendable) (sym is.headers_are)
      (sent_sendable request.headers (is_json_body request.body && not (list_any (is_named (codes "content-type")) request.headers)) (length m.body.items)
      (host_value t url.port) are (omega (arith, m.body.ok.0, m.body.ok.1, m.body.small)) (value_visible url t valid e));
}
