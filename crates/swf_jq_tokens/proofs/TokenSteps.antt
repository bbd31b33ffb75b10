-- Tokens one after another.
use Rattle.std.proofs.Common.{◌≡◌, ◌∙◌, ap, refl, ℕ, zero, suc, ◌+◌, List, [], ◌∷◌, ◌++◌, append_assoc, append-nil, length, take, drop, true, false, Result, Ok, Err, arith}
use Rattle.std.proofs.lemmas.List.{nil_from_length}
use Rattle.std.proofs.lemmas.List.Sums.{sum_by-cons}
use Rattle.std.specs.Char.{len_utf8}
use Rattle.std.specs.List.{sum_by}
use Rattle.swf_jq_tokens.specs.Gives.{Fails}
use Rattle.swf_jq_tokens.specs.Lexer.{spelled, place_after, is_blank, Lexed, last, also, lex_after, lex}
use Rattle.swf_jq_tokens.specs.declared.fault.ParseFault.{ParseFault}
use Rattle.swf_jq_tokens.specs.declared.fault.ParseFault.TheVariants as fault
use Rattle.swf_jq_tokens.specs.declared.lexer.End.TheVariants as end
use Rattle.swf_jq_tokens.specs.declared.token.Token.{Token}
use Rattle.swf_jq_tokens.specs.Nest.{Nest}

-- the characters of a token are passed, and what stands behind them is read by itself
skipped : (k : ℕ) (n : Nest) (at : ℕ) (cs : List ℕ) → lex_after k n at cs ≡ lex n (at + sum_by len_utf8 (take k cs)) (drop k cs)
unfolding lex_after
skipped zero n at cs = ap (λ (x : ℕ). lex n x cs) (omega arith)
skipped (suc k) n at [] = ap (λ (x : ℕ). last (end.At x)) (omega arith)
skipped (suc k) n at (c ∷ cs) =
    let e : sum_by len_utf8 (take (suc k) (c ∷ cs)) ≡ len_utf8 c + sum_by len_utf8 (take k cs) = sum_by-cons len_utf8 c (take k cs) in
    skipped k n (at + len_utf8 c) cs ∙ ap (λ (x : ℕ). lex n x (drop k cs)) (omega arith)

-- ---- the tokens, by what stands at the front

pub lex-end : (n : Nest) (at : ℕ) → lex n at [] ≡ last (end.At at)
unfolding lex_after
lex-end n at = refl

pub lex-blank : (n : Nest) (at c : ℕ) (cs : List ℕ) → is_blank c ≡ true → lex n at (c ∷ cs) ≡ lex n (at + 1) cs
unfolding lex_after
lex-blank n at c cs h = rw h refl

pub lex-token : (n m : Nest) (at c : ℕ) (cs : List ℕ) (t : Token) (k : ℕ) → is_blank c ≡ false → spelled n at c cs ≡ Ok (t, k, Ok m)
    → lex n at (c ∷ cs) ≡ also at t (lex m (place_after at k cs) (drop k cs))
unfolding lex_after
lex-token n m at c cs t k h e = rw (h, e) (ap (also at t) (skipped k m (at + 1) cs))

pub lex-behind : (n : Nest) (at c : ℕ) (cs : List ℕ) (t : Token) (k : ℕ) (e : ParseFault) → is_blank c ≡ false → spelled n at c cs ≡ Ok (t, k, Err e) → lex n at (c ∷ cs) ≡ also at t (last (end.Fault e))
unfolding lex_after
lex-behind n at c cs t k e h f = rw (h, f) refl

pub lex-fault : (n : Nest) (at c : ℕ) (cs : List ℕ) (e : ParseFault) → is_blank c ≡ false → spelled n at c cs ≡ Err e → lex n at (c ∷ cs) ≡ last (end.Fault e)
unfolding lex_after
lex-fault n at c cs e h f = rw (h, f) refl

-- ---- the same behind tokens that are read

abbrev pub after : List (ℕ × Token) → Lexed → Lexed
after ts r = (ts ++ r.0, r.1)

pub on_end : (ts : List (ℕ × Token)) (n : Nest) (at : ℕ) (rest : List ℕ) (all : Lexed) → length rest ≡ 0 → after ts (lex n at rest) ≡ all → (ts, end.At at) ≡ all
on_end ts n at rest all h e = cc (nil_from_length rest h, lex-end n at, append-nil ts)

pub on_blank : (ts : List (ℕ × Token)) (n : Nest) (at c : ℕ) (cs rest : List ℕ) (all : Lexed) → rest ≡ c ∷ cs → is_blank c ≡ true → after ts (lex n at rest) ≡ all
    → after ts (lex n (at + 1) cs) ≡ all
on_blank ts n at c cs rest all r h e = cc (lex-blank n at c cs h)

pub on_token : (ts us : List (ℕ × Token)) (n m : Nest) (at c : ℕ) (cs rest : List ℕ) (t : Token) (k place : ℕ) (more : List ℕ) (all : Lexed) → rest ≡ c ∷ cs → is_blank c ≡ false
    → spelled n at c cs ≡ Ok (t, k, Ok m) → us ≡ ts ++ (at, t) ∷ [] → place ≡ place_after at k cs → more ≡ drop k cs → after ts (lex n at rest) ≡ all → after us (lex m place more) ≡ all
on_token ts us n m at c cs rest t k place more all r h d u p q e = cc (lex-token n m at c cs t k h d, append_assoc ts ((at, t) ∷ []) (lex m place more).0)

pub on_behind : (ts us : List (ℕ × Token)) (n : Nest) (at c : ℕ) (cs rest : List ℕ) (t : Token) (k : ℕ) (f : ParseFault) (all : Lexed) → rest ≡ c ∷ cs → is_blank c ≡ false
    → spelled n at c cs ≡ Ok (t, k, Err f) → us ≡ ts ++ (at, t) ∷ [] → after ts (lex n at rest) ≡ all → (us, end.Fault f) ≡ all
on_behind ts us n at c cs rest t k f all r h d u e = cc (lex-behind n at c cs t k f h d)

pub on_fault : (ts : List (ℕ × Token)) (n : Nest) (at c : ℕ) (cs rest : List ℕ) (f : ParseFault) (all : Lexed) → rest ≡ c ∷ cs → is_blank c ≡ false
    → spelled n at c cs ≡ Err f → after ts (lex n at rest) ≡ all → (ts, end.Fault f) ≡ all
on_fault ts n at c cs rest f all r h d e = cc (lex-fault n at c cs f h d, append-nil ts)

-- a fault that is not memory's is the definition's
pub fault_is : {Y : Type 0} (e : ParseFault) (said : Result Y ParseFault) → (e ≡ fault.OutOfMemory → ⊥) → Fails e said → said ≡ Err e
fault_is fault.OutOfMemory said h f = absurd (h refl)
fault_is e said h f = f

pub ruleset lex_steps = (on_end, on_blank, on_token, on_behind, on_fault, fault_is)
