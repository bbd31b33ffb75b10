-- The lexer on a text between its quotation marks.
use Rattle.std.proofs.Common.{◌≡◌, ◌∙◌, ◌==◌, ◌/◌, ◌%◌, ◌≤◌, ◌<◌, ℕ, List, [], ◌∷◌, ◌++◌, length, flat_map, true, false, refl, ap, sym, nat_lt, Option, Some, None, subst, arith, inl, inr, append_assoc, eqb-true, ne_eqb, lt-ltb, le-ltb, length-append, encode_utf8, if◌then◌else◌}
use Rattle.std.proofs.Math.Seq.{drop-append_seam}
use Rattle.std.proofs.lemmas.Bool.{cases_Bool, cases_lt, agree_below_at}
use Rattle.std.proofs.lemmas.Str.{encode_ascii}
use Rattle.std.specs.Char.{digit_char}
use Rattle.std.specs.Option.{option_map_or}
use Rattle.json.specs.Text.{code_unit, short_escape, plain}
use Rattle.swf_value.specs.Written.{escaped, escaped_byte}
use Rattle.swf_jq_tokens.specs.Lexer.{Tokens, text, spelled}
use Rattle.swf_jq_tokens.specs.Nest.{Nest}
use Rattle.swf_jq_tokens.specs.Piece.{piece, grown}
use Rattle.swf_jq_tokens.specs.declared.piece.Piece.{Piece}
use Rattle.swf_jq_tokens.specs.declared.token.Token.TheVariants as token
use Rattle.swf_jq_tokens.proofs.Lexing.{Reads, token_reads}
use Rattle.swf_jq_tokens.proofs.Pieces.{one_unit}

-- ---- the spelling of a character is read as it

abbrev Spells : ℕ → List ℕ → Type 0
Spells c ds = (more : List ℕ) → piece plain (ds ++ more) ≡ grown (c ∷ []) (length ds) (piece plain more)

control_code : (c : ℕ) → c < 32 → Some c ≡ code_unit 48 48 (digit_char (c / 16)) (digit_char (c % 16))
unfolding code_unit
control_code c h =
    same (code_unit 48 48 (digit_char (c / 16)) (digit_char (c % 16)))
    (agree_below_at (λ x. option_map_or (λ u. x == u) (code_unit 48 48 (digit_char (x / 16)) (digit_char (x % 16))) false) (λ x. true) 32 c refl h)
  where
    same : (o : Option ℕ) → option_map_or (λ u. c == u) o false ≡ true → Some c ≡ o
    same None e = cc e
    same (Some u) e = ap Some (eqb-true c u e)

control_spells : (c : ℕ) → c < 32 → Spells c (92 ∷ 117 ∷ 48 ∷ 48 ∷ digit_char (c / 16) ∷ digit_char (c % 16) ∷ [])
unfolding piece
control_spells c h = λ more. one_unit 48 48 (digit_char (c / 16)) (digit_char (c % 16)) c more (control_code c h) (inl (omega arith))

plain_spells : (c : ℕ) → (c == 34) ≡ false → (c == 92) ≡ false → 32 ≤ c → Spells c (c ∷ [])
unfolding piece
plain_spells c q b h = λ more. rw (q, b, le-ltb c 32 h) refl

by_code : (c k : ℕ) (ds es : List ℕ) → Spells k ds → ((c == k) ≡ false → Spells c es) → Spells c (if c == k then ds else es)
by_code c k ds es s f = elim (cases_Bool (c == k)) [
  | inl same ↦ rw same (subst (λ (x : ℕ). Spells x ds) (sym (eqb-true c k same)) s)
  | inr apart ↦ rw apart (f apart)
]

last_spells : (c : ℕ) → c < 128 → (c == 34) ≡ false → (c == 92) ≡ false
    → Spells c (if nat_lt c 32 then 92 ∷ 117 ∷ 48 ∷ 48 ∷ digit_char (c / 16) ∷ digit_char (c % 16) ∷ [] else encode_utf8 c)
last_spells c h q b = elim (cases_lt c 32) [
  | inl low ↦ rw (lt-ltb c 32 low) (control_spells c low)
  | inr high ↦ rw (le-ltb c 32 high, encode_ascii c h) (plain_spells c q b high)
]

escape_spells : (c : ℕ) → c < 128 → Spells c (escaped c)
unfolding piece short_escape
escape_spells c h =
    by_code c 34 _ _ (λ more. refl) (λ quote.
    by_code c 92 _ _ (λ more. refl) (λ back.
    by_code c 8 _ _ (λ more. refl) (λ b.
    by_code c 12 _ _ (λ more. refl) (λ f.
    by_code c 10 _ _ (λ more. refl) (λ n.
    by_code c 13 _ _ (λ more. refl) (λ r.
    by_code c 9 _ _ (λ more. refl) (λ t.
    last_spells c h quote back)))))))

char_spells : (c : ℕ) → Spells c (escaped_byte c)
char_spells c = elim (cases_lt c 128) [
  | inl low ↦ rw (lt-ltb c 128 low) (escape_spells c low)
  | inr high ↦ rw (le-ltb c 128 high) (plain_spells c (ne_eqb c 34 (λ e. omega arith)) (ne_eqb c 92 (λ e. omega arith)) (omega arith))
]

-- ---- the spelling of a text

abbrev whole : List ℕ → ℕ → Option Piece
whole t n = Some (record { text = t; opens = false; count = n })

piece_is : (t rest : List ℕ) → piece plain ((flat_map escaped_byte t ++ 34 ∷ []) ++ rest) ≡ whole t (length (flat_map escaped_byte t ++ 34 ∷ []))
unfolding piece
piece_is [] rest = refl
piece_is (c ∷ t) rest =
    let more = flat_map escaped_byte t ++ 34 ∷ [] in
    let e : (escaped_byte c ++ flat_map escaped_byte t) ++ 34 ∷ [] ≡ escaped_byte c ++ more = append_assoc (escaped_byte c) (flat_map escaped_byte t) (34 ∷ []) in
    rw e (rw (append_assoc (escaped_byte c) more rest) (char_spells c (more ++ rest) ∙ rw (piece_is t rest) (ap (whole (c ∷ t)) (sym (length-append (escaped_byte c) more)))))

-- a text at the front
pub text_reads : (n : Nest) (t rest : List ℕ) (us : Tokens) → Reads n rest us → Reads n ((34 ∷ (flat_map escaped_byte t ++ 34 ∷ [])) ++ rest) (token.Text t ∷ us)
unfolding spelled
text_reads n t rest us r =
    let ds = flat_map escaped_byte t ++ 34 ∷ [] in
    token_reads n n 34 (ds ++ rest) (token.Text t) (length ds) us refl (λ at. ap (text n at (ds ++ rest)) (piece_is t rest)) (rw (drop-append_seam ds rest) r)
