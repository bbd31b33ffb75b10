-- The steps end in a target exactly where the bytes do.
use Rattle.std.proofs.Common.{◌≡◌, ℕ, true, false, ◌==◌, List, [], ◌∷◌, ◌++◌, refl, sym, ap, ◌∙◌, arith, inl, inr}
use Rattle.std.proofs.lemmas.Bool.{cases_Bool, eqb-true, false_from_ne_true, true≢false}
use Rattle.std.proofs.lemmas.List.Elements.{All-nil, All-cons, All-head, All-tail}
use Rattle.httparse.specs.Grammar.{LineEnd, crlf, lf, print_end, print_blank, is_token_byte, is_uri_byte, AllPass, IsToken, EndsInTarget}
use Rattle.httparse.proofs.PieceLemmas.{space_ends_token}
use Rattle.swf_http.specs.declared.target.Place.{Place}
use Rattle.swf_http.specs.declared.target.Place.TheVariants.{Blank, AfterReturn, Method, Target, Nowhere}
use Rattle.swf_http.specs.Targets.{step, run}

abbrev Token : ℕ → Type 0
Token b = is_token_byte b ≡ true

abbrev Uri : ℕ → Type 0
Uri b = is_uri_byte b ≡ true

run-append : (place : Place) (a b : List ℕ) → run place (a ++ b) ≡ run (run place a) b
run-append place [] b = refl
run-append place (x ∷ a) b = run-append (step place x) a b

blank_run : (ends : List LineEnd) → run Blank (print_blank ends) ≡ Blank
blank_run [] = refl
blank_run (crlf ∷ ends) = blank_run ends
blank_run (lf ∷ ends) = blank_run ends

newline_ends_token : is_token_byte 10 ≡ false
unfolding is_token_byte
newline_ends_token = refl

return_ends_token : is_token_byte 13 ≡ false
unfolding is_token_byte
return_ends_token = refl

other : (b n : ℕ) → is_token_byte b ≡ true → is_token_byte n ≡ false → (b == n) ≡ false
other b n token ends =
    false_from_ne_true (b == n) (λ same. true≢false (sym token ∙ ap is_token_byte (eqb-true b n same) ∙ ends))

first_token : (b : ℕ) → is_token_byte b ≡ true → step Blank b ≡ Method
first_token b token = rw (other b 10 token newline_ends_token, other b 13 token return_ends_token, token)

next_token : (b : ℕ) → is_token_byte b ≡ true → step Method b ≡ Method
next_token b token = rw (other b 32 token space_ends_token, token)

tokens_run : (word : List ℕ) → AllPass is_token_byte word → run Method word ≡ Method
tokens_run [] all = refl
tokens_run (b ∷ word) all =
    rw (next_token b (All-head Token b word all)) (tokens_run word (All-tail Token b word all))

word_run : (word : List ℕ) → IsToken word → run Blank word ≡ Method
word_run [] token = absurd (omega arith)
word_run (b ∷ word) token =
    rw (first_token b (All-head Token b word token.1)) (tokens_run word (All-tail Token b word token.1))

target_run : (target : List ℕ) → AllPass is_uri_byte target → run Target target ≡ Target
target_run [] all = refl
target_run (b ∷ target) all =
    let here : is_uri_byte b ≡ true = All-head Uri b target all in
    rw here (target_run target (All-tail Uri b target all))

pub runs_to_target : (bytes : List ℕ) → EndsInTarget bytes → run Blank bytes ≡ Target
runs_to_target bytes (ends, word, target, token, all, is) =
    rw (is, run-append Blank (print_blank ends ++ word) (32 ∷ target), run-append Blank (print_blank ends) word, blank_run ends, word_run word token)
    (target_run target all)

-- what the bytes are that lead from a place to a target
abbrev Leads : Place → List ℕ → Type 0
Leads Blank bytes = EndsInTarget bytes
Leads AfterReturn bytes = (more : List ℕ) × (bytes ≡ 10 ∷ more) × EndsInTarget more
Leads Method bytes =
    (word : List ℕ) × (target : List ℕ) × AllPass is_token_byte word × AllPass is_uri_byte target
    × (bytes ≡ word ++ 32 ∷ target)
Leads Target bytes = AllPass is_uri_byte bytes
Leads Nowhere bytes = ⊥

more_blank : (end : LineEnd) (bytes : List ℕ) → EndsInTarget bytes → EndsInTarget (print_end end ++ bytes)
more_blank crlf bytes at =
    (crlf ∷ at.0, at.1, at.2, at.3, at.4, ap (λ (t : List ℕ). 13 ∷ 10 ∷ t) at.5)
more_blank lf bytes at = (lf ∷ at.0, at.1, at.2, at.3, at.4, ap (λ (t : List ℕ). 10 ∷ t) at.5)

after_return : (b : ℕ) (bytes : List ℕ) → b ≡ 13 → Leads AfterReturn bytes → EndsInTarget (b ∷ bytes)
after_return b bytes is at = rw (is, at.1) (more_blank crlf at.0 at.2)

after_feed : (b : ℕ) (bytes : List ℕ) → b ≡ 10 → EndsInTarget bytes → EndsInTarget (b ∷ bytes)
after_feed b bytes is at = rw is (more_blank lf bytes at)

first_of_method : (b : ℕ) (bytes : List ℕ) → is_token_byte b ≡ true → Leads Method bytes → EndsInTarget (b ∷ bytes)
first_of_method b bytes token at = (
  [],
  b ∷ at.0,
  at.1,
  (omega arith, All-cons Token b at.0 token at.2),
  at.3,
  ap (λ (t : List ℕ). b ∷ t) at.4,
)

-- the same of the rest of the bytes
abbrev LeadsRest : List ℕ → Type 0
LeadsRest bytes = (place : Place) → run place bytes ≡ Target → Leads place bytes

from_blank : (b : ℕ) (bytes : List ℕ) → LeadsRest bytes → run (step Blank b) bytes ≡ Target → EndsInTarget (b ∷ bytes)
from_blank b bytes rest is =
    elim (cases_Bool (b == 10)) [
      | inl feed ↦ after_feed b bytes (eqb-true b 10 feed) (rest Blank (rw feed at is))
      | inr no_feed ↦
          elim (cases_Bool (b == 13)) [
            | inl return ↦ after_return b bytes (eqb-true b 13 return) (rest AfterReturn (rw (no_feed, return) at is))
            | inr no_return ↦
                elim (cases_Bool (is_token_byte b)) [
                  | inl token ↦ first_of_method b bytes token (rest Method (rw (no_feed, no_return, token) at is))
                  | inr no_token ↦ absurd (rest Nowhere (rw (no_feed, no_return, no_token) at is))
                ]
          ]
    ]

from_return : (b : ℕ) (bytes : List ℕ) → LeadsRest bytes → run (step AfterReturn b) bytes ≡ Target
    → Leads AfterReturn (b ∷ bytes)
from_return b bytes rest is =
    elim (cases_Bool (b == 10)) [
      | inl feed ↦ (bytes, ap (λ (v : ℕ). v ∷ bytes) (eqb-true b 10 feed), rest Blank (rw feed at is))
      | inr no_feed ↦ absurd (rest Nowhere (rw no_feed at is))
    ]

from_method : (b : ℕ) (bytes : List ℕ) → LeadsRest bytes → run (step Method b) bytes ≡ Target → Leads Method (b ∷ bytes)
from_method b bytes rest is =
    elim (cases_Bool (b == 32)) [
      | inl space ↦
          ([], bytes, All-nil Token, rest Target (rw space at is), ap (λ (v : ℕ). v ∷ bytes) (eqb-true b 32 space))
      | inr no_space ↦
          elim (cases_Bool (is_token_byte b)) [
            | inl token ↦
                let at = rest Method (rw (no_space, token) at is) in
                (b ∷ at.0, at.1, All-cons Token b at.0 token at.2, at.3, ap (λ (t : List ℕ). b ∷ t) at.4)
            | inr no_token ↦ absurd (rest Nowhere (rw (no_space, no_token) at is))
          ]
    ]

from_target : (b : ℕ) (bytes : List ℕ) → LeadsRest bytes → run (step Target b) bytes ≡ Target → Leads Target (b ∷ bytes)
from_target b bytes rest is =
    elim (cases_Bool (is_uri_byte b)) [
      | inl uri ↦ All-cons Uri b bytes uri (rest Target (rw uri at is))
      | inr no_uri ↦ absurd (rest Nowhere (rw no_uri at is))
    ]

pub leads : (bytes : List ℕ) (place : Place) → run place bytes ≡ Target → Leads place bytes
leads [] Blank is = cc
leads [] AfterReturn is = cc
leads [] Method is = cc
leads [] Target is = All-nil Uri
leads [] Nowhere is = cc
leads (b ∷ bytes) Blank is = from_blank b bytes (leads bytes) is
leads (b ∷ bytes) AfterReturn is = from_return b bytes (leads bytes) is
leads (b ∷ bytes) Method is = from_method b bytes (leads bytes) is
leads (b ∷ bytes) Target is = from_target b bytes (leads bytes) is
leads (b ∷ bytes) Nowhere is = leads bytes Nowhere is

pub ends_in_target-tells : (bytes : List ℕ) → run Blank bytes ≡ Target → EndsInTarget bytes
ends_in_target-tells bytes is = leads bytes Blank is
