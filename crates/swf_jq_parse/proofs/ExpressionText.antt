-- What is read is a text of the grammar, and each text of the grammar is read.
use Rattle.std.proofs.Common.{◌≡◌, ◌∙◌, inl, inr, ℕ, List, [], Bool, true, false, refl, ap, sym, length, nat_lt, Result, Ok, Err, IfOk, IfErr, le-ltb, ltb-false, if◌then◌else◌}
use Rattle.std.specs.Str.{encode_utf8_all}
use Rattle.swf_expr.specs.Expr.{Tree}
use Rattle.swf_jq_parse.specs.ExpressionText.{IsTextOf, IsRefused}
use Rattle.swf_jq_tokens.specs.Gives.{Gives, Fails}
use Rattle.swf_jq_parse.specs.Grammar.{Pipe}
use Rattle.swf_jq_parse.specs.GrammarLaws.{Placed, tokens}
use Rattle.swf_jq_tokens.specs.Lexer.{lex}
use Rattle.swf_jq_tokens.specs.declared.lexer.End.{End}
use Rattle.swf_jq_tokens.specs.declared.lexer.End.TheVariants as end
use Rattle.swf_jq_parse.specs.Machine.{run}
use Rattle.swf_jq_parse.specs.Parse.{read_of, parse_of}
use Rattle.swf_jq_tokens.specs.declared.fault.ParseFault.{ParseFault}
use Rattle.swf_jq_tokens.specs.declared.fault.ParseFault.TheVariants as fault
use Rattle.swf_jq_parse.specs.declared.mode.Mode.TheVariants as mode
use Rattle.swf_jq_parse.proofs.Binding.{other}
use Rattle.swf_jq_parse.proofs.Complete.{complete}
use Rattle.swf_jq_parse.proofs.First.{read_so}

ended : (ts : Placed) (stop : End) (e : Tree) → run [] mode.Want ts stop ≡ Ok e → (at : ℕ) × (stop ≡ end.At at) × Pipe (tokens ts) e
ended ts (end.At at) e g = (at, refl, read_so ts (end.At at) e g)
ended ts (end.Fault f) e g = absurd (read_so ts (end.Fault f) e g)

within : (cs : List ℕ) (e : Tree) (long : Bool) → nat_lt 4096 (length (encode_utf8_all cs)) ≡ long
    → (if long then Err fault.TooLong else read_of (lex [] 0 cs)) ≡ Ok e → IsTextOf cs e
within cs e true h g = cc g
within cs e false h g =
    let w = ended (lex [] 0 cs).0 (lex [] 0 cs).1 e g in
    record { short = ltb-false 4096 (length (encode_utf8_all cs)) h; place = w.0; whole = w.1; grammar = w.2 }

-- what is read is a text of the grammar
text_read : (cs : List ℕ) (e : Tree) → parse_of cs ≡ Ok e → IsTextOf cs e
unfolding parse_of
text_read cs e h = within cs e (nat_lt 4096 (length (encode_utf8_all cs))) refl h

-- each text of the grammar is read
read_text : (cs : List ℕ) (e : Tree) → IsTextOf cs e → parse_of cs ≡ Ok e
unfolding parse_of
read_text cs e t =
    other (nat_lt 4096 (length (encode_utf8_all cs))) (Err fault.TooLong) (read_of (lex [] 0 cs)) (le-ltb 4096 (length (encode_utf8_all cs)) t.short)
    ∙ ap (run [] mode.Want (lex [] 0 cs).0) t.whole
    ∙ complete (lex [] 0 cs).0 t.place e t.grammar

pub read_clause : (cs : List ℕ) (r : Result Tree ParseFault) → Gives (λ e. e) r (parse_of cs) → IfOk r (λ e. IsTextOf cs e)
read_clause cs (Ok e) g = text_read cs e g
read_clause cs (Err f) g = tt

refused_by : (cs : List ℕ) (f : ParseFault) → Fails f (parse_of cs) → IsRefused cs f
refused_by cs fault.OutOfMemory h = inl refl
refused_by cs f h = inr (λ e t. let g : Err f ≡ Ok e = sym h ∙ read_text cs e t in cc g)

pub refused_clause : (cs : List ℕ) (r : Result Tree ParseFault) → Gives (λ e. e) r (parse_of cs) → IfErr r (λ f. IsRefused cs f)
refused_clause cs (Ok e) g = tt
refused_clause cs (Err f) g = refused_by cs f g
