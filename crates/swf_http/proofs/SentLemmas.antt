-- What may be sent is ASCII.
use Rattle.std.proofs.Common.{◌≡◌, ◌∙◌, sym, refl, ℕ, ◌<◌, ◌≤◌, List, [], ◌∷◌, Bool, true, false, ◌==◌, ◌||◌, nat_lt, codes, inl, inr, arith}
use Rattle.std.proofs.lemmas.Bool.{cases_lt, eqb-true, ltb-true, lt-ltb, false_from_ne_true, true≢false}
use Rattle.std.proofs.lemmas.List.Elements.{All-head, All-tail}
use Rattle.std.proofs.lemmas.Str.{encodes-IsAscii}
use Rattle.std.specs.List.{list_all, list_any}
use Rattle.std.specs.Str.{encode_utf8_all}
use Rattle.std.specs.Char.{is_ascii_alphanumeric}
use Rattle.httparse.specs.Grammar.{AllPass, IsToken, is_token_byte, is_ows}
use Rattle.swf_text.specs.Same.{is_ascii}
use Rattle.swf_text.proofs.SameLemmas.{both_true, all_ascii}
use Rattle.swf_http.specs.Sent.{is_visible, IsPlain}

pub text_bytes : (t : List ℕ) → is_ascii t ≡ true → encode_utf8_all t ≡ t
text_bytes t p = encodes-IsAscii t (all_ascii t p)

-- a byte past ASCII is none of those listed
past : (cs : List ℕ) (b : ℕ) → list_all (λ c. nat_lt c 128) cs ≡ true → 128 ≤ b → list_any (λ c. c == b) cs ≡ false
past [] b all over = refl
past (c ∷ cs) b all over =
    let p = both_true (nat_lt c 128) (list_all (λ c. nat_lt c 128) cs) all in
    let low : c < 128 = ltb-true c 128 p.0 in
    let e : (c == b) ≡ false = false_from_ne_true (c == b) (λ same. omega (arith, low, over, eqb-true c b same)) in
    rw e (past cs b p.1 over)

no_letter : (b : ℕ) → 128 ≤ b → is_ascii_alphanumeric b ≡ false
no_letter b over = grind arith

no_token : (b : ℕ) → 128 ≤ b → is_token_byte b ≡ false
unfolding is_token_byte
no_token b over = rw (no_letter b over) (past (codes "!#$%&'*+-.^_`|~") b refl over)

token_byte : (b : ℕ) → is_token_byte b ≡ true → nat_lt b 128 ≡ true
token_byte b is = elim (cases_lt b 128) [
  | inl below ↦ lt-ltb b 128 below
  | inr above ↦ absurd (true≢false (sym is ∙ no_token b above))
]

all_pass : (test : ℕ → Bool) → ((b : ℕ) → test b ≡ true → nat_lt b 128 ≡ true) → (t : List ℕ) → AllPass test t → is_ascii t ≡ true
all_pass test low [] all = refl
all_pass test low (b ∷ t) all =
    rw (low b (All-head (λ c. test c ≡ true) b t all)) (all_pass test low t (All-tail (λ c. test c ≡ true) b t all))

pub token_ascii : (t : List ℕ) → IsToken t → is_ascii t ≡ true
token_ascii t token = all_pass is_token_byte token_byte t token.1

visible_byte : (b : ℕ) → is_visible b ≡ true → nat_lt b 128 ≡ true
visible_byte b is = grind arith

pub visible_ascii : (t : List ℕ) → AllPass is_visible t → is_ascii t ≡ true
visible_ascii t all = all_pass is_visible visible_byte t all

plain_byte : (b : ℕ) → (is_visible b || is_ows b) ≡ true → nat_lt b 128 ≡ true
plain_byte b is = grind arith

pub plain_ascii : (t : List ℕ) → IsPlain t → is_ascii t ≡ true
plain_ascii t plain = all_pass (λ b. is_visible b || is_ows b) plain_byte t plain.bytes
