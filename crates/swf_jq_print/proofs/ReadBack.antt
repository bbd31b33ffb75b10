-- The text of an expression is read as it.
use Rattle.std.proofs.Common.{◌≡◌, ◌∙◌, ℕ, List, [], ◌∷◌, length, refl, ap, sym, Option, Some, None, subst, le-ltb}
use Rattle.std.specs.Str.{encode_utf8_all}
use Rattle.swf_jq_parse.specs.Grammar.{Tokens, Pipe}
use Rattle.swf_jq_parse.specs.GrammarLaws.{tokens}
use Rattle.swf_jq_tokens.specs.Lexer.{Lexed, lex}
use Rattle.swf_jq_tokens.specs.declared.lexer.End.{End}
use Rattle.swf_jq_tokens.specs.declared.lexer.End.TheVariants as end
use Rattle.swf_jq_tokens.specs.declared.token.Token.{Token}
use Rattle.swf_jq_parse.specs.Machine.{run}
use Rattle.swf_jq_parse.specs.Parse.{parse_of}
use Rattle.swf_jq_print.specs.Print.{print_of}
use Rattle.swf_jq_print.specs.ReadBack.{IsReadBack}
use Rattle.swf_jq_parse.specs.declared.mode.Mode.TheVariants as mode
use Rattle.swf_jq_parse.proofs.Complete.{complete}
use Rattle.swf_jq_tokens.proofs.Lexing.{longer, bare}
use Rattle.swf_jq_print.proofs.TextReading.{text_is_read}

-- what is read with no fault is these tokens, and then the end
abbrev Whole : Lexed → Option Tokens → Type 0
Whole l None = Unit {0}
Whole l (Some us) = (at : ℕ) × (l.1 ≡ end.At at) × (tokens l.0 ≡ us)

whole : (ts : List (ℕ × Token)) (e : End) → Whole (ts, e) (bare (ts, e))
whole [] (end.At at) = (at, refl, refl)
whole [] (end.Fault f) = tt
whole (t ∷ ts) e = one_more (bare (ts, e)) (whole ts e)
  where
    one_more : (o : Option Tokens) → Whole (ts, e) o → Whole (t ∷ ts, e) (longer t.1 o)
    one_more None w = tt
    one_more (Some us) w = (w.0, w.1, ap (λ (x : Tokens). t.1 ∷ x) w.2)

pub read_back : IsReadBack
unfolding parse_of
read_back e h short deep =
    let l = lex [] 0 (print_of e) in
    let q = text_is_read e h deep in
    let w = subst (Whole l) (q.1 0) (whole l.0 l.1) in
    rw (le-ltb 4096 (length (encode_utf8_all (print_of e))) short)
    (ap (run [] mode.Want l.0) w.1 ∙ complete l.0 w.0 e (subst (λ (x : Tokens). Pipe x e) (sym w.2) q.2))
