use Rattle.std.proofs.Common.{◌≡◌, ◌∙◌, ap, sym, subst, chars, ℕ, [], Ok, Err}
use Rattle.std.proofs.lemmas.Iterator.{items_from_collect, YieldsList-from_chars}
use Rattle.swf_jq_tokens.specs.Gives.{Gives}
use Rattle.swf_jq_tokens.specs.Lexer.{lex}
use Rattle.swf_jq_parse.specs.Parse.{read_of, parse_of}
use Rattle.swf_jq_tokens.specs.declared.fault.ParseFault.TheVariants as fault
use Rattle.swf_jq_parse.proofs.ExpressionText.{read_clause, refused_clause}
use Rattle.swf_jq_parse.proofs.Reading.{parse_long, parse_short}
use Rattle.swf_jq_parse.proofs.parsing.parse.Goals as goal

pub returns-then-text-gt-LONGEST : goal.returns-then-text-gt-LONGEST
returns-then-text-gt-LONGEST c =
    let given : Gives (λ e. e) (Err fault.TooLong) (parse_of (chars c.args.text.now)) = parse_long c.args.text.now c.utf8.text c.if-text-gt-LONGEST.true in
    record { meaning = given; read = tt; refused = refused_clause (chars c.args.text.now) (Err fault.TooLong) given }

pub returns : goal.returns
returns c =
    let read = YieldsList-from_chars c.args.text.now c.utf8.text c.chars.ensures.rest in
    let all : c.as_slice.result.now ≡ chars c.args.text.now = c.as_slice.ensures.value ∙ items_from_collect {E = ℕ} (Ok c.in_ok-characters.characters) c.in_ok-characters.ensures.ran read in
    let given : Gives (λ e. e) c.run.result (parse_of (chars c.args.text.now)) =
    subst (Gives (λ e. e) c.run.result) (ap read_of (c.in_ok-tokens.ensures ∙ ap (lex [] 0) all) ∙ sym (parse_short c.args.text.now c.utf8.text c.if-text-gt-LONGEST.false)) c.run.ensures in
    record { meaning = given; read = read_clause (chars c.args.text.now) c.run.result given; refused = refused_clause (chars c.args.text.now) c.run.result given }
